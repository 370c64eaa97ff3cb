use Rattle.std.proofs.Common.{◌≡◌, ◌+◌, ◌-◌, ◌<◌, [], ◌∷◌, ◌++◌, take, length, vec_len, vec_capacity, arith, length-append, sym, ◌∙◌, ap}
use Rattle.event_log.specs.Log.{last_steps}
use Rattle.event_log.specs.declared.entry.Entry.TheVariants.{Steps}
use Rattle.event_log.proofs.Entries.{steps-by-last}
use Rattle.event_log.proofs.history.put_steps.Goals as goal
use Rattle.event_log.proofs.history.put_steps.Goals.{then-steps-gt0, else-steps-gt0}

pub overflow_add-steps : goal.overflow_add-steps
overflow_add-steps c =
    let by = steps-by-last c.args.n c.args.entries.now.items c.requires.some c.requires.history in
    let n : c.last_steps-steps.result ≡ last_steps c.args.entries.now.items
    = c.last_steps-steps.ensures ∙ ap last_steps c.deref.ensures.value in
    omega (arith, by.least, n, c.requires.steps)

pub push_reserved-requires : goal.push_reserved-requires
push_reserved-requires c =
    let old = c.args.entries.now.items in
    let by = steps-by-last c.args.n old c.requires.some c.requires.history in
    let n : c.last_steps-steps.result ≡ last_steps old = c.last_steps-steps.ensures ∙ ap last_steps c.deref.ensures.value in
    let len : vec_len c.args.entries.now ≡ length old = sym c.deref.ensures.len ∙ ap length c.deref.ensures.value in
    elim c.if-steps-gt0.branch [
      | then-steps-gt0 w ↦
          let some : 0 < last_steps old = omega arith in
          let rest : w.pop.new.self.items ≡ take (length old - 1) old = w.pop.ensures.rest ∙ ap (λ k. take (k - 1) old) len in
          omega (
            arith,
            ap length (by.raised some),
            length-append (take (length old - 1) old) (Steps (last_steps old + c.args.n) ∷ []),
            ap length rest,
            ap vec_len w.entries-is,
            ap vec_capacity w.entries-is,
            w.pop.ensures.capacity,
            w.pop.ensures.len,
            c.requires.room,
          )
      | else-steps-gt0 w ↦
          let none : last_steps old ≡ 0 = omega arith in
          omega (
            arith,
            ap length (by.opened none),
            length-append old (Steps c.args.n ∷ []),
            len,
            ap vec_len w.entries-is,
            ap vec_capacity w.entries-is,
            c.requires.room,
          )
    ]

pub returns-clause-items : goal.returns-clause-items
returns-clause-items c =
    let old = c.args.entries.now.items in
    let by = steps-by-last c.args.n old c.requires.some c.requires.history in
    let n : c.last_steps-steps.result ≡ last_steps old = c.last_steps-steps.ensures ∙ ap last_steps c.deref.ensures.value in
    let len : vec_len c.args.entries.now ≡ length old = sym c.deref.ensures.len ∙ ap length c.deref.ensures.value in
    elim c.if-steps-gt0.branch [
      | then-steps-gt0 w ↦
          let some : 0 < last_steps old = omega arith in
          let rest : w.pop.new.self.items ≡ take (length old - 1) old = w.pop.ensures.rest ∙ ap (λ k. take (k - 1) old) len in
          let items : c.if-steps-gt0.entries.items ≡ w.pop.new.self.items = ap (λ v. v.items) w.entries-is in
          c.push_reserved.ensures.items
          ∙ ap (λ xs. xs ++ Steps (c.last_steps-steps.result + c.args.n) ∷ []) (items ∙ rest)
          ∙ ap (λ k. take (length old - 1) old ++ Steps (k + c.args.n) ∷ []) n ∙ sym (by.raised some)
      | else-steps-gt0 w ↦
          let none : last_steps old ≡ 0 = omega arith in
          let sum : c.last_steps-steps.result + c.args.n ≡ c.args.n = omega (arith, n, none) in
          c.push_reserved.ensures.items
          ∙ ap (λ xs. xs ++ Steps (c.last_steps-steps.result + c.args.n) ∷ []) (ap (λ v. v.items) w.entries-is)
          ∙ ap (λ k. old ++ Steps k ∷ []) sum ∙ sym (by.opened none)
    ]
