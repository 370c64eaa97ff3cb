use Rattle.std.proofs.Common.{◌≡◌, ◌∷◌, true, false, arith, map, Err, ◌∙◌, string_bytes}
use Rattle.std.proofs.lemmas.Grind.{common_steps}
use Rattle.std.specs.List.{list_any}
use Rattle.std.specs.Str.{bytes_eq}
use Rattle.toml.proofs.Views.{Entry}
use Rattle.toml.specs.View.{members_view}
use Rattle.board_file.specs.Field.{no_key_but}
use Rattle.board_file.specs.Path.{key_path}
use Rattle.board_file.proofs.Keys.{known_key, other_key}
use Rattle.board_file.proofs.Steps.{reads_wrong}
use Rattle.board_file.proofs.part.Part.nothing_else.Goals as goal

pub loop-key-preserved : goal.loop-key-preserved
loop-key-preserved c =
    let (can, finite, same) = c.loop-key.invariant in
    let e : Entry = (c.in-Some.key.now, c.in-Some._value.now) in
    let iter : c.loop-key.key-iterator ≡ e ∷ c.next.new.self = grind (arith, common_steps) in
    let known : list_any (λ k. bytes_eq (string_bytes e.0) k.now) c.args.known.now ≡ true = grind (arith, common_steps) in
    (tt, tt, same ∙ rw iter (known_key c.args.known.now c.args.self.now.path.now e c.next.new.self known))

pub returns-then-not-is_among : goal.returns-then-not-is_among
returns-then-not-is_among c =
    let (can, finite, same) = c.loop-key.invariant in
    let e : Entry = (c.in-Some.key.now, c.in-Some._value.now) in
    let iter : c.loop-key.key-iterator ≡ e ∷ c.next.new.self = grind (arith, common_steps) in
    let other : list_any (λ k. bytes_eq (string_bytes e.0) k.now) c.args.known.now ≡ false = grind (arith, common_steps) in
    let path = c.args.self.now.path.now in
    let due : no_key_but (map (λ k. k.now) c.args.known.now) path (members_view c.loop-key.key-iterator) ≡ Err (key_path path (string_bytes e.0)) =
    rw iter (other_key c.args.known.now path e c.next.new.self other) in
    reads_wrong (λ x. x) _ (key_path path (string_bytes e.0)) _ (same ∙ due) (grind (arith, common_steps))
