-- The parts of a row, which answers are no refusals, and what holds of each row of a list.
use Rattle.std.proofs.Common.{◌≡◌, ℕ, ◌==◌, List, [], ◌∷◌, All}
use Rattle.std.proofs.lemmas.Bool.{cond_both}
use Rattle.std.proofs.lemmas.List.Elements.{All-cons, All-nil}
use Rattle.tx_types.specs.Code.{success, suspend_lifted}
use Rattle.tx_types.specs.declared.kind.Kind.{Kind}
use Rattle.kernel_state.specs.Row.{IsRow, IsNoRefusal, Row, AnsweredIsKept, ChangedIsKept, DoneIsKept, WrittenIsKept, UnlessIsKept, FoundIsKept, GivenIsKept}
use Rattle.kernel_state.specs.Row.{EitherIsKept}
use Rattle.kernel_state.specs.WaitLaws.{EndChangesOne, EndKeepsMemory}
use Rattle.kernel_state.specs.declared.answer.Answer.TheVariants.{Code, Value, Ended, Waits}
use Rattle.thread_calls.specs.ThreadRows.{end_answer}
use Rattle.thread_calls.proofs.Tables.{TableLaws}

-- the laws of the layer below
pub record Parts : Type 0 where
  pub answered : AnsweredIsKept
  pub changed : ChangedIsKept
  pub done : DoneIsKept
  pub written : WrittenIsKept
  pub unless : UnlessIsKept
  pub found : FoundIsKept ℕ
  pub found_kind : FoundIsKept Kind
  pub given_name : GivenIsKept (List ℕ)
  pub either : EitherIsKept
  pub end_memory : EndKeepsMemory
  pub end_one : EndChangesOne
  pub tables : TableLaws

-- an answer that isn't a refusal
success_is_no_refusal : IsNoRefusal (Code success)
success_is_no_refusal c same no_success not_lifted = no_success (let is_success : c ≡ success = cc in is_success)

pub lifted_is_no_refusal : IsNoRefusal (Code suspend_lifted)
lifted_is_no_refusal c same no_success not_lifted = not_lifted (let is_lifted : c ≡ suspend_lifted = cc in is_lifted)

pub value_is_no_refusal : (v : ℕ) → IsNoRefusal (Value v)
value_is_no_refusal v c same no_success not_lifted = cc

pub ended_is_no_refusal : IsNoRefusal Ended
ended_is_no_refusal c same no_success not_lifted = cc

pub waits_is_no_refusal : IsNoRefusal Waits
waits_is_no_refusal c same no_success not_lifted = cc

-- who ends itself gets no answer, and another thread's end is a success
pub end_is_no_refusal : (by t : ℕ) → IsNoRefusal (end_answer by t)
end_is_no_refusal by t = cond_both (t == by) Ended (Code success) IsNoRefusal (λ yes. ended_is_no_refusal) (λ no. success_is_no_refusal)

-- each row of a list, one after another: the first and the second and so on
abbrev AreRows : List Row → Type 0
AreRows [] = Unit {0}
AreRows (r ∷ rs) = IsRow r × AreRows rs

infixr 5 ◌and◌
pub ◌and◌ : {A B : Type 0} → A → B → A × B
a and b = (a, b)

pub all_rows : (rs : List Row) → AreRows rs → All IsRow rs
all_rows [] each = All-nil IsRow
all_rows (r ∷ rs) each = All-cons IsRow r rs each.0 (all_rows rs each.1)
