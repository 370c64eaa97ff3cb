-- The words of a preamble: word i is the word in the four bytes from 4 i on.
use Rattle.std.specs.Prelude.{ℕ, ◌==◌, Bool, not, List}
use Rattle.machine_words.specs.Word.{word_at}
use Rattle.module_preamble.specs.declared.words.Preamble.{Preamble}

-- the sixteen words at the head of an image
abbrev pub words_of : List ℕ → Preamble
words_of bytes = record {
  id = word_at bytes 0;
  major = word_at bytes 4;
  minor = word_at bytes 8;
  words = word_at bytes 12;
  app = word_at bytes 16;
  props = word_at bytes 20;
  shell = word_at bytes 24;
  start = word_at bytes 28;
  stop = word_at bytes 32;
  start_prio = word_at bytes 36;
  start_stack = word_at bytes 40;
  callback = word_at bytes 44;
  callback_prio = word_at bytes 48;
  callback_stack = word_at bytes 52;
  code_size = word_at bytes 56;
  data_size = word_at bytes 60;
}

-- a module has a callback thread where its callback entry isn't 0
abbrev pub has_callback : Preamble → Bool
has_callback p = not (p.callback == 0)
