-- Each move of the scheduler leaves all threads but its own as they were.
use Rattle.std.proofs.Common.{◌≡◌, ℕ, ◌||◌, ◌&&◌, not, List, [], ◌∷◌, slice_index, refl, ap, ◌∙◌, arith}
use Rattle.std.proofs.lemmas.Bool.{eq-eqb, ne_eqb}
use Rattle.std.proofs.lemmas.List.{get_or-set_same, get_or-set_other}
use Rattle.ready_maps.specs.Kept.{IsKept}
use Rattle.ready_maps.specs.Laws.{Move, Ready, Unready, Yield, SetThreshold, SetPriority, MayMove, moved, MovesKeepTheFacts}
use Rattle.ready_maps.specs.Members.{ReadyAddsOne, UnreadyTakesOne, YieldKeepsReady, ThresholdKeepsReady, PriorityKeepsReady, ReadyKeepsNumbers}
use Rattle.ready_maps.specs.Members.{UnreadyKeepsNumbers, YieldKeepsNumbers, ThresholdSetsNumbers, PrioritySetsNumbers}
use Rattle.ready_maps.specs.Sched.{Sched, is_ready}
use Rattle.kernel_state.specs.Scheduling.{ReadyChangesOne, UnreadyChangesOne, YieldChangesNone, ThresholdChangesOne, PriorityChangesOne}

-- one move keeps the facts
kept_by : MovesKeepTheFacts → (s : Sched) (m : Move) → IsKept s → MayMove s m → IsKept (moved s m)
kept_by facts s m kept may = facts s (m ∷ []) kept (may, tt)

-- the number of a thread, in equal lists
same_number : (xs ys : List ℕ) (u : ℕ) → xs ≡ ys → slice_index xs u ≡ slice_index ys u
same_number xs ys u same = ap (λ ns. slice_index ns u) same

pub ready_changes_one : MovesKeepTheFacts → ReadyAddsOne → ReadyKeepsNumbers → ReadyChangesOne
ready_changes_one facts adds numbers s t kept below absent =
    let same = numbers s t in
    record {
      others = record {
        kept = kept_by facts s (Ready t) kept (below, absent);
        levels = same.levels;
        ready = λ u other. adds s t u ∙ ap (λ b. b || is_ready s u) (ne_eqb u t other);
        priority = λ u other. same_number _ _ u same.priority;
        threshold = λ u other. same_number _ _ u same.threshold;
      };
      ready = adds s t t ∙ ap (λ b. b || is_ready s t) (eq-eqb t t refl);
      priority = same_number _ _ t same.priority;
      threshold = same_number _ _ t same.threshold;
    }

pub unready_changes_one : MovesKeepTheFacts → UnreadyTakesOne → UnreadyKeepsNumbers → UnreadyChangesOne
unready_changes_one facts takes numbers s t kept present =
    let same = numbers s t in
    record {
      others = record {
        kept = kept_by facts s (Unready t) kept present;
        levels = same.levels;
        ready = λ u other. takes s t u ∙ ap (λ b. not b && is_ready s u) (ne_eqb u t other);
        priority = λ u other. same_number _ _ u same.priority;
        threshold = λ u other. same_number _ _ u same.threshold;
      };
      ready = takes s t t ∙ ap (λ b. not b && is_ready s t) (eq-eqb t t refl);
      priority = same_number _ _ t same.priority;
      threshold = same_number _ _ t same.threshold;
    }

pub yield_changes_none : MovesKeepTheFacts → YieldKeepsReady → YieldKeepsNumbers → YieldChangesNone
yield_changes_none facts keeps numbers s t kept some =
    let same = numbers s in
    record {
      others = record {
        kept = kept_by facts s Yield kept some;
        levels = same.levels;
        ready = λ u other. keeps s u kept;
        priority = λ u other. same_number _ _ u same.priority;
        threshold = λ u other. same_number _ _ u same.threshold;
      };
      ready = keeps s t kept;
      priority = same_number _ _ t same.priority;
      threshold = same_number _ _ t same.threshold;
    }

pub threshold_changes_one : MovesKeepTheFacts → ThresholdKeepsReady → ThresholdSetsNumbers → ThresholdChangesOne
threshold_changes_one facts keeps numbers s t threshold kept below at_most =
    let same = numbers s t threshold in
    let size = kept.laid_out.threads.1 in
    record {
      others = record {
        kept = kept_by facts s (SetThreshold t threshold) kept (below, at_most);
        levels = same.levels;
        ready = λ u other. keeps s t threshold u;
        priority = λ u other. same_number _ _ u same.priority;
        threshold = λ u other. same_number _ _ u same.threshold ∙ get_or-set_other s.threshold t u threshold 0 other;
      };
      ready = keeps s t threshold t;
      priority = same_number _ _ t same.priority;
      threshold = same_number _ _ t same.threshold ∙ get_or-set_same s.threshold t threshold 0 (omega arith);
    }

pub priority_changes_one : MovesKeepTheFacts → PriorityKeepsReady → PrioritySetsNumbers → PriorityChangesOne
priority_changes_one facts keeps numbers s t priority threshold kept below at_most level =
    let same = numbers s t priority threshold in
    let sizes = kept.laid_out.threads in
    let priorities = sizes.0 in
    let thresholds = sizes.1 in
    record {
      others = record {
        kept = kept_by facts s (SetPriority t priority threshold) kept (below, at_most, level);
        levels = same.levels;
        ready = λ u other. keeps s t priority threshold u kept;
        priority = λ u other. same_number _ _ u same.priority ∙ get_or-set_other s.priority t u priority 0 other;
        threshold = λ u other. same_number _ _ u same.threshold ∙ get_or-set_other s.threshold t u threshold 0 other;
      };
      ready = keeps s t priority threshold t kept;
      priority = same_number _ _ t same.priority ∙ get_or-set_same s.priority t priority 0 (omega arith);
      threshold = same_number _ _ t same.threshold ∙ get_or-set_same s.threshold t threshold 0 (omega arith);
    }
