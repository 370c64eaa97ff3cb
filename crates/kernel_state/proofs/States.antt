-- Which states go with a wait.
use Rattle.std.proofs.Common.{◌≡◌, true, false, Option, None, Some, IsSome, refl, sym, ap, ◌∙◌, subst}
use Rattle.std.proofs.lemmas.Bool.{false≢true}
use Rattle.tx_types.specs.declared.state.State.{State}
use Rattle.tx_types.specs.declared.state.State.TheVariants.{Ready, Completed, Terminated, Suspended, Sleep as Asleep, QueueSusp, SemaphoreSusp, EventFlag}
use Rattle.tx_types.specs.declared.state.State.TheVariants.{BlockMemory, ByteMemory, MutexSusp}
use Rattle.suspend_lists.specs.declared.wait.Asks.{Asks}
use Rattle.suspend_lists.specs.declared.wait.Asks.TheVariants.{Sleep, Receive, Send, Instance, Own, Flags, Bytes, Block, Callback}
use Rattle.suspend_lists.specs.declared.wait.Wait.{Wait}
use Rattle.kernel_state.specs.Sound.{IsWaitOf}
use Rattle.kernel_state.specs.Thread.{is_over, is_state, is_waiting}
use Rattle.kernel_state.specs.Waiting.{state_of_ask}

-- each ask makes its thread wait
pub ask_waits : (asks : Asks) → is_waiting (state_of_ask asks) ≡ true
ask_waits Sleep = refl
ask_waits (Receive to) = refl
ask_waits (Send message front) = refl
ask_waits Instance = refl
ask_waits Own = refl
ask_waits (Flags want option to) = refl
ask_waits (Bytes size to) = refl
ask_waits (Block to) = refl
ask_waits (Callback to) = refl

-- in a state in which a thread waits it isn't ready, and isn't over
pub waits_not_ready : (state : State) → is_waiting state ≡ true → is_state state Ready ≡ false
waits_not_ready Ready waits = absurd (false≢true waits)
waits_not_ready Completed waits = refl
waits_not_ready Terminated waits = refl
waits_not_ready Suspended waits = refl
waits_not_ready Asleep waits = refl
waits_not_ready QueueSusp waits = refl
waits_not_ready SemaphoreSusp waits = refl
waits_not_ready EventFlag waits = refl
waits_not_ready BlockMemory waits = refl
waits_not_ready ByteMemory waits = refl
waits_not_ready MutexSusp waits = refl

pub waits_not_over : (state : State) → is_waiting state ≡ true → is_over state ≡ false
waits_not_over Ready waits = absurd (false≢true waits)
waits_not_over Completed waits = absurd (false≢true waits)
waits_not_over Terminated waits = absurd (false≢true waits)
waits_not_over Suspended waits = refl
waits_not_over Asleep waits = refl
waits_not_over QueueSusp waits = refl
waits_not_over SemaphoreSusp waits = refl
waits_not_over EventFlag waits = refl
waits_not_over BlockMemory waits = refl
waits_not_over ByteMemory waits = refl
waits_not_over MutexSusp waits = refl

-- who waits is in a wait, and who is in one waits
pub some_if_waits : (state : State) (o : Option Wait) → is_waiting state ≡ true → IsWaitOf state o → IsSome o
some_if_waits state None waits right = absurd (false≢true (sym right ∙ waits))
some_if_waits state (Some w) waits right = refl

pub waits_if_some : (state : State) (o : Option Wait) → IsSome o → IsWaitOf state o → is_waiting state ≡ true
waits_if_some state None some right = absurd (false≢true some)
waits_if_some state (Some w) some right = ap is_waiting right ∙ ask_waits w.asks

-- who doesn't wait is in none, and so is who is over
pub none_if_rests : (state : State) (o : Option Wait) → is_waiting state ≡ false → IsWaitOf state o → o ≡ None
none_if_rests state None rests right = refl
none_if_rests state (Some w) rests right = absurd (false≢true (sym rests ∙ waits_if_some state (Some w) refl right))

pub over_rests : (state : State) → is_over state ≡ true → is_waiting state ≡ false
over_rests Ready over = absurd (false≢true over)
over_rests Completed over = refl
over_rests Terminated over = refl
over_rests Suspended over = absurd (false≢true over)
over_rests Asleep over = absurd (false≢true over)
over_rests QueueSusp over = absurd (false≢true over)
over_rests SemaphoreSusp over = absurd (false≢true over)
over_rests EventFlag over = absurd (false≢true over)
over_rests BlockMemory over = absurd (false≢true over)
over_rests ByteMemory over = absurd (false≢true over)
over_rests MutexSusp over = absurd (false≢true over)

pub none_if_over : (state : State) (o : Option Wait) → is_over state ≡ true → IsWaitOf state o → o ≡ None
none_if_over state o over right = none_if_rests state o (over_rests state over) right

-- from one state in which a thread doesn't wait to another
pub rests_on : (a b : State) (o : Option Wait) → IsWaitOf a o → is_waiting a ≡ false → is_waiting b ≡ false → IsWaitOf b o
rests_on a b o right rests after = subst (IsWaitOf b) (sym (none_if_rests a o rests right)) after
