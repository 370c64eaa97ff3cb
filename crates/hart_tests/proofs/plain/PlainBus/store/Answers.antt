use Rattle.std.proofs.Common.{ℕ, ◌-◌, List, slice_index, ap, rules}
use Rattle.std.proofs.lemmas.List.FromFn.{fill_by_all}
use Rattle.machine_words.specs.Number.{after_store}
use Rattle.hart_tests.specs.declared.plain.Plain.{Plain}
use Rattle.hart_tests.proofs.plain.PlainBus.store.Goals as goal

pub returns-clause-after : goal.returns-clause-after
returns-clause-after c =
    let bus = c.args.self.now in
    let stored : ℕ → ℕ = after_store (slice_index bus.bytes) (c.args.a - bus.base) c.args.n c.args.value in
    let whole : List ℕ → Plain = λ bytes. record { base = bus.base; bytes = bytes } in
    ap whole (fill_by_all stored c.put_number.new.bytes 12 0 (search rules) (λ k below. c.put_number.ensures k))
