use Rattle.std.proofs.Common.{◌≡◌, ◌+◌, ◌*◌, ◌++◌, take}
use Rattle.arrayvec.specs.ArrayString.{array_string_len}
use Rattle.board_report.specs.Parts.{words_text}
use Rattle.board_report.proofs.parts.put_words.Given as goal

-- the words so far are in the line, each in nine bytes
abbrev pub invariant-loop-word : goal.invariant-loop-word
invariant-loop-word l = record {
  bytes : l.line.bytes ≡ l.fn.line.bytes ++ words_text (take l.word-index l.words);
  len : array_string_len l.line ≡ array_string_len l.fn.line + 9 * l.word-index;
}
