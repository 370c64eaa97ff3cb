use Rattle.std.proofs.Common.{◌≡◌, ◌*◌, ◌<◌, true, [], ℕ, List, All, length, drop, Option, IfSome, ap, sym, subst, ◌∙◌, arith}
use Rattle.std.proofs.lemmas.List.Elements.{All-head, All-tail, All-weaker}
use Rattle.region_guard.specs.Memory.{may}
use Rattle.region_guard.specs.declared.region.Access.TheVariants.{Store}
use Rattle.suspend_lists.specs.ThreadList.{has}
use Rattle.kernel_state.specs.Change.{Change}
use Rattle.kernel_state.specs.Kernel.{module_of}
use Rattle.kernel_state.specs.ObjectLaws.{HasNoResult}
use Rattle.kernel_state.specs.Objects.{all_ended, waiters_of}
use Rattle.kernel_state.specs.Serves.{Serves}
use Rattle.kernel_state.specs.Waiting.{wait_ended}
use Rattle.kernel_state.specs.declared.kernel.Kernel.{Kernel}
use Rattle.kernel_state.proofs.AllEnded.{Places, first_is, first_stands, next_is, none_is, still_none, waiter_waits}
use Rattle.kernel_state.proofs.kernel.Kernel.end_all.Goals as goal

pub end_wait-requires : goal.end_wait-requires
end_wait-requires c =
    let k = c.loop-t.self in
    let t = c.in-Some.t in
    let o = c.args.o in
    let here = first_is (waiters_of k o) t (sym c.first.ensures ∙ c.in-Some.is) in
    let sound = c.loop-t.invariant.serves.sound in
    let none : HasNoResult k c.args.e t = All-head (HasNoResult k c.args.e) t _ (subst (All (HasNoResult k c.args.e)) here c.loop-t.invariant.nothing) in
    record {
      sound = sound;
      waits = waiter_waits c.who_waits_at_a_place.ensures.each k o t sound (subst (λ ts. has t ts ≡ true) (sym here) (first_stands t _));
      result = subst (λ (to : Option ℕ). IfSome to (λ x. may c.loop-t.g (module_of k t) Store x (4 * length c.empty-none.result) ≡ true)) (sym none) tt;
    }

pub loop-t-smaller : goal.loop-t-smaller
loop-t-smaller c =
    let k = c.loop-t.self in
    let g = c.loop-t.g in
    let t = c.in-Some.t in
    let o = c.args.o in
    let e = c.args.e in
    let at = c.who_waits_at_a_place.ensures in
    let places : Places = record { next = at.next; each = at.each } in
    let here = first_is (waiters_of k o) t (sym c.first.ensures ∙ c.in-Some.is) in
    let rest = drop 1 (waiters_of k o) in
    let next = next_is places c.a_wait_keeps_sound.ensures.ends e c.requires.stays o t rest k g c.loop-t.invariant.serves.sound here in
    let kernel : c.end_wait.new.self ≡ (wait_ended k g t e []).kernel =
    subst (λ (v : List ℕ). c.end_wait.new.self ≡ (wait_ended k g t e v).kernel) c.empty-none.ensures c.end_wait.ensures.kernel in
    let left = ap (λ (j : Kernel). length (waiters_of j o)) kernel ∙ ap length next.rest in
    let more = ap length here in
    let less : length (waiters_of c.end_wait.new.self o) < length (waiters_of k o) = omega (arith, left, more) in
    less

pub loop-t-preserved : goal.loop-t-preserved
loop-t-preserved c =
    let k = c.loop-t.self in
    let g = c.loop-t.g in
    let t = c.in-Some.t in
    let o = c.args.o in
    let e = c.args.e in
    let at = c.who_waits_at_a_place.ensures in
    let places : Places = record { next = at.next; each = at.each } in
    let here = first_is (waiters_of k o) t (sym c.first.ensures ∙ c.in-Some.is) in
    let rest = drop 1 (waiters_of k o) in
    let next = next_is places c.a_wait_keeps_sound.ensures.ends e c.requires.stays o t rest k g c.loop-t.invariant.serves.sound here in
    let after = c.end_wait.new.self in
    let h = c.end_wait.new.g in
    let ended = wait_ended k g t e [] in
    let kernel : after ≡ ended.kernel = subst (λ (v : List ℕ). after ≡ (wait_ended k g t e v).kernel) c.empty-none.ensures c.end_wait.ensures.kernel in
    let memory : h ≡ ended.memory = subst (λ (v : List ℕ). h ≡ (wait_ended k g t e v).memory) c.empty-none.ensures c.end_wait.ensures.memory in
    let left : waiters_of after o ≡ rest = ap (λ j. waiters_of j o) kernel ∙ next.rest in
    let on : all_ended e (waiters_of after o) after h ≡ all_ended e rest ended.kernel ended.memory =
    ap (λ ts. all_ended e ts after h) left ∙ (ap (λ j. all_ended e rest j h) kernel ∙ ap (all_ended e rest ended.kernel) memory) in
    let nothing = All-tail (HasNoResult k e) t rest (subst (All (HasNoResult k e)) here c.loop-t.invariant.nothing) in
    record {
      kernel = ap (λ (x : Change). x.kernel) on ∙ (ap (λ ts. (all_ended e ts k g).kernel) (sym here) ∙ c.loop-t.invariant.kernel);
      memory = ap (λ (x : Change). x.memory) on ∙ (ap (λ ts. (all_ended e ts k g).memory) (sym here) ∙ c.loop-t.invariant.memory);
      serves = subst (λ j. Serves j h) (sym kernel) (subst (Serves ended.kernel) (sym memory)
          (c.a_wait_keeps_serving.ensures.ends k g t e [] c.loop-t.invariant.serves next.waits c.requires.stays));
      nothing = subst (λ j. All (HasNoResult j e) (waiters_of j o)) (sym kernel) (subst (All (HasNoResult ended.kernel e)) (sym next.rest)
          (All-weaker (HasNoResult k e) (HasNoResult ended.kernel e) (λ u of_u. still_none at.stays k g t u e of_u) rest nothing));
      none = c.loop-t.invariant.none;
    }

pub returns : goal.returns
returns c =
    let k = c.loop-t.self in
    let g = c.loop-t.g in
    let none : waiters_of k c.args.o ≡ [] = none_is (waiters_of k c.args.o) (sym c.first.ensures ∙ c.in_default.is) in
    record {
      kernel = ap (λ ts. (all_ended c.args.e ts k g).kernel) (sym none) ∙ c.loop-t.invariant.kernel;
      memory = ap (λ ts. (all_ended c.args.e ts k g).memory) (sym none) ∙ c.loop-t.invariant.memory;
      serves = c.loop-t.invariant.serves;
    }
