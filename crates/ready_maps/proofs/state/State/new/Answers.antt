use Rattle.std.proofs.Common.{◌≡◌, ℕ, replicate, ap, ◌∙◌, refl}
use Rattle.ready_maps.proofs.state.State.new.Goals as goal

pub returns : goal.returns
returns c =
    let priority : c.in_ok-priority.priority.items ≡ replicate {A = ℕ} 256 0 = c.in_ok-priority.ensures.items_if_clones_equal (λ y same. same)
    ∙ ap (λ (n : ℕ). replicate 256 n) c.new.ensures in
    let threshold : c.in_ok-threshold.threshold.items ≡ replicate {A = ℕ} 256 0 = c.in_ok-threshold.ensures.items_if_clones_equal (λ y same. same)
    ∙ ap (λ (n : ℕ). replicate 256 n) c.new-2.ensures in
    rw (priority, threshold, c.in_ok-order.ensures.items, c.in_ok-held.ensures.items) refl
