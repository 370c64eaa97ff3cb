use Rattle.std.proofs.Common.{◌≡◌, ◌++◌, ◌∷◌, [], arith, vec_len, vec_capacity, length-append, sym, ap, subst}
use Rattle.event_log.specs.Log.{Log, IsHistory}
use Rattle.event_log.proofs.Entries.{few-entries}
use Rattle.event_log.proofs.history.History.add.Goals as goal
use Rattle.event_log.proofs.history.History.add.Goals.{in-Steps, in-Irq}

pub push_reserved-requires : goal.push_reserved-requires
push_reserved-requires c =
    let es = c.self.inside.entries.items in
    let after = subst (λ (h : Log). IsHistory 16 (h.entries ++ c.args.e ∷ [])) (sym c.self.view_is) c.requires.history in
    let room = subst (λ (h : Log). h.irqs ≡ 65536) (sym c.self.view_is) c.requires.room in
    let few = few-entries (es ++ c.args.e ∷ []) after.apart in
    let same = elim c.match-e.branch as (λ _. c.match-e.self-inside.entries ≡ c.self.inside.entries) [
      | in-Steps w ↦ ap (λ h. h.entries) w.self-inside-is
      | in-Irq w ↦ ap (λ h. h.entries) w.self-inside-is
    ] in
    omega (arith, few, after.irqs, room, length-append es (c.args.e ∷ []), ap vec_len same, ap vec_capacity same, c.self.invariant.3)
