use Rattle.call_dispatch.proofs.Calls.{refusal_changes_nothing, refused_call_changes_a0_alone, no_row_changes_a0_alone}
use Rattle.call_dispatch.proofs.laws.a_refused_call_changes_its_a0_alone.Goals as goal

pub returns : goal.returns
returns c = record {
  row = refusal_changes_nothing c.a_call_is_kept.ensures;
  refused = refused_call_changes_a0_alone c.a_call_is_kept.ensures;
  no_row = no_row_changes_a0_alone;
}
