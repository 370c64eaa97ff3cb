use Rattle.std.proofs.Common.{◌≡◌, map}
use Rattle.toml.specs.View.{members_view}
use Rattle.board_file.specs.Field.{no_key_but}
use Rattle.board_file.proofs.part.Part.nothing_else.Given as goal

abbrev pub invariant-loop-key : goal.invariant-loop-key
invariant-loop-key l =
    let due = no_key_but (map (λ k. k.now) l.known) l.self.path.now in
    (goal.iterator-loop-key).can_next l.key-iterator ×
    (goal.iterator-loop-key).is_finite l.key-iterator ×
    (due (members_view l.self.fields.now.entries) ≡ due (members_view l.key-iterator))
