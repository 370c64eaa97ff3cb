-- The numbers of threads through moves: they stay, but for those that a move sets.
use Rattle.std.proofs.Common.{◌≡◌, ℕ, slice_index, Option, None, Some, cond, ◌∙◌, refl, arith, ap}
use Rattle.std.proofs.lemmas.Bool.{cond_both}
use Rattle.std.proofs.lemmas.Grind.{common_steps}
use Rattle.ready_maps.specs.Members.{SameNumbers, ReadyKeepsNumbers, UnreadyKeepsNumbers, PrioritySetsNumbers}
use Rattle.ready_maps.specs.Moves.{placed_again, readied, taken_out, with_numbers}
use Rattle.ready_maps.specs.Sched.{Sched, pr, th, best, is_ready, pick, picked, runs}

pub ready_keeps_numbers : ReadyKeepsNumbers
ready_keeps_numbers s t = grind (arith, common_steps)

pub unready_keeps_numbers : UnreadyKeepsNumbers
unready_keeps_numbers s t = grind (arith, common_steps)

pub pr-same : {s now : Sched} (t : ℕ) → SameNumbers s now → pr now t ≡ pr s t
pr-same t same = ap (λ numbers. slice_index numbers t) same.priority

pub th-same : {s now : Sched} (t : ℕ) → SameNumbers s now → th now t ≡ th s t
th-same t same = ap (λ numbers. slice_index numbers t) same.threshold

pub same_then : (s now later : Sched) → SameNumbers s now → SameNumbers now later → SameNumbers s later
same_then s now later first second = record {
  levels = second.levels ∙ first.levels;
  priority = second.priority ∙ first.priority;
  threshold = second.threshold ∙ first.threshold;
}

picked_keeps_numbers : (s : Sched) (o : Option ℕ) → SameNumbers s (picked s o)
picked_keeps_numbers s None = record { levels = refl; priority = refl; threshold = refl }
picked_keeps_numbers s (Some h) = grind (arith, common_steps)

placed_again_keeps_numbers : (s : Sched) (t : ℕ) → SameNumbers s (placed_again s t)
placed_again_keeps_numbers s t = grind (arith, common_steps)

pub priority_sets_numbers : PrioritySetsNumbers
priority_sets_numbers s t priority threshold =
    let now = with_numbers (taken_out s t) t priority threshold in
    let set = with_numbers s t priority threshold in
    let same = λ (after : Sched)
    (kept : SameNumbers now after). let all : SameNumbers set after = record
    { levels = kept.levels; priority = kept.priority; threshold = kept.threshold } in all in
    let again = placed_again now t in
    cond_both (runs s t) (pick again) (cond (is_ready s t) (readied now t) set) (SameNumbers set)
    (λ here. same (pick again) (same_then now again (pick again) (placed_again_keeps_numbers now t) (picked_keeps_numbers again (best again))))
    (λ rests. cond_both (is_ready s t) (readied now t) set (SameNumbers set) (λ ready. same (readied now t) (ready_keeps_numbers now t))
    (λ out. record { levels = refl; priority = refl; threshold = refl }))
