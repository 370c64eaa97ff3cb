-- Who waits first for an object, and where nobody does.
use Rattle.std.proofs.Common.{◌≡◌, ◌==◌, ℕ, Bool, true, false, cond, List, [], ◌∷◌, Option, None, Some, IsSome, slice_get, refl, sym, ap, ◌∙◌, subst, eq-eqb}
use Rattle.std.proofs.lemmas.Bool.{or_left}
use Rattle.std.proofs.lemmas.Option.{cond_some, none-some}
use Rattle.std.specs.Option.{option_and_then, option_map_or}
use Rattle.suspend_lists.specs.ThreadList.{has}
use Rattle.suspend_lists.specs.Waits.{wait_of}
use Rattle.suspend_lists.specs.declared.wait.Asks.{Asks}
use Rattle.suspend_lists.specs.declared.wait.Wait.{Wait}
use Rattle.kernel_state.specs.ContentLaws.{IsWaiter, WaiterIsOne}
use Rattle.kernel_state.specs.Objects.{asks_so, first_that, first_waiter, waiters_of}
use Rattle.kernel_state.specs.Sound.{IsSound}
use Rattle.kernel_state.specs.declared.kernel.Kernel.{Kernel}

has_first : (ts : List ℕ) (t : ℕ) → slice_get ts 0 ≡ Some t → has t ts ≡ true
has_first [] t is = absurd cc
has_first (u ∷ us) t is = let same : t ≡ u = cc in or_left (t == u) (has t us) (eq-eqb t u same)

none_first : (ts : List ℕ) → slice_get ts 0 ≡ None → ts ≡ []
none_first [] is = refl
none_first (t ∷ ts) is = absurd cc

pub nobody_waits : (k : Kernel) (o : ℕ) → first_waiter k o ≡ None → waiters_of k o ≡ []
nobody_waits k o is = none_first (waiters_of k o) is

pub first_is_one : WaiterIsOne → (k : Kernel) (o t : ℕ) → IsSound k → first_waiter k o ≡ Some t → IsWaiter k o t
first_is_one one k o t sound is = one k o t sound (has_first (waiters_of k o) t is)

pub first_waits : WaiterIsOne → (k : Kernel) (o t : ℕ) → IsSound k → first_waiter k o ≡ Some t → IsSome (wait_of k.waits t)
first_waits one k o t sound is = subst IsSome (sym (first_is_one one k o t sound is).is) refl

-- the first who waits, and asks so
pub record IsFirst (test : Asks → Bool) (k : Kernel) (o t : ℕ) : Type 0 where
  pub waiter : IsWaiter k o t
  pub asks : test waiter.wait.asks ≡ true

pub first_asks : WaiterIsOne → (test : Asks → Bool) (k : Kernel) (o t : ℕ) → IsSound k → first_that test k o ≡ Some t → IsFirst test k o t
first_asks one test k o t sound is = by_first (first_waiter k o) refl is where
  by_first : (first : Option ℕ) → first_waiter k o ≡ first → option_and_then (λ u. cond (asks_so test k u) (Some u) None) first ≡ Some t → IsFirst test k o t
  by_first None at is = absurd (none-some t is)
  by_first (Some u) at is =
      let parts = cond_some (asks_so test k u) u t is in
      let w = subst (IsWaiter k o) parts.1 (first_is_one one k o u sound at) in
      record {
        waiter = w;
        asks = sym (ap (λ (v : Option Wait). option_map_or (λ x. test x.asks) v false) w.is) ∙ (ap (asks_so test k) (sym parts.1) ∙ parts.0);
      }
