use Rattle.std.proofs.Common.{◌≡◌, ℕ, ◌+◌, length, refl, sym, ap, ◌∙◌, subst, arith}
use Rattle.std.specs.Ordering.{nat_cmp}
use Rattle.std.specs.BTreeMap.{get}
use Rattle.sled_model.specs.Event.{key_of_event}
use Rattle.sled_queues.specs.Queues.{prepared}
use Rattle.sled_queues.specs.Lists.{lists_of, Once, ArePending}
use Rattle.sled_queues.specs.theory.Lists.{gains, changed_in, waits_in}
use Rattle.sled_queues.proofs.Single.{first_part, last_part}
use Rattle.sled_queues.proofs.Beginning.{found_is, found_once}
use Rattle.sled_queues.proofs.Listed.{prepares, prepared_listed, prepared_queues, prepared_pending, becomes, same_entries, same_listed, same_queues, same_pending}
use Rattle.sled_queues.proofs.queues.Queues.prepare.Goals as goal

pub prepare_all-requires : goal.prepare_all-requires
prepare_all-requires c =
    let start : c.len-start.result ≡ length c.self.inside.pending.items = omega (arith, c.len-start.ensures, c.self.inside.pending.ok.0) in
    let key = c.as_ref.result.now in
    subst Once (sym (last_part c.self.inside.pending.items _ _ _ (c.deref.ensures.value ∙ c.in_default.ensures.ok) start))
    (found_once (get nat_cmp c.self.inside.queues) (lists_of c.self.inside.lists) c.self.invariant.1 c.args.tree key (length key + 1) (omega arith))

pub returns-clause-ok : goal.returns-clause-ok
returns-clause-ok c =
    let start : c.len-start.result ≡ length c.self.inside.pending.items = omega (arith, c.len-start.ensures, c.self.inside.pending.ok.0) in
    let key : c.as_ref.result.now ≡ key_of_event c.args.event.now = c.as_ref.ensures ∙ c.key.ensures in
    let is = prepares c.args.tree c.args.event.now _ (get nat_cmp c.self.inside.queues) (get nat_cmp c.prepare_all.new.queues)
    (λ n. found_is (get nat_cmp c.self.inside.queues) (lists_of c.self.inside.lists) c.self.invariant.1 c.args.tree c.as_ref.result.now n ∙ ap (λ k. waits_in c.args.tree k (get nat_cmp c.self.inside.queues n)) key)
    (λ n. c.in_default-prepare_all.ensures.ok n ∙ ap (λ ns. changed_in (gains c.args.event.now) ns (get nat_cmp c.self.inside.queues) n) (last_part c.self.inside.pending.items _ _ _ (c.deref.ensures.value ∙ c.in_default.ensures.ok) start)) in
    becomes (prepared c.args.tree c.args.event.now) _ _ _ c.self.view_is is refl

pub invariant_of-self : goal.invariant_of-self
invariant_of-self c =
    let start : c.len-start.result ≡ length c.self.inside.pending.items = omega (arith, c.len-start.ensures, c.self.inside.pending.ok.0) in
    let back = c.truncate.ensures.items ∙ first_part c.self.inside.pending.items c.in-Err.ensures.err.0 _ _ c.in-Err.ensures.err.1 start in
    (c.self.invariant.0, c.self.invariant.1, subst (ArePending (get nat_cmp c.self.inside.queues)) (sym back) c.self.invariant.2)

pub invariant_of-self-in-Err-prepare_all : goal.invariant_of-self-in-Err-prepare_all
invariant_of-self-in-Err-prepare_all c =
    let start : c.len-start.result ≡ length c.self.inside.pending.items = omega (arith, c.len-start.ensures, c.self.inside.pending.ok.0) in
    let same = same_entries _ _ c.self.inside.given c.in-Err-prepare_all.ensures.err in
    let back = c.truncate-in-Err-prepare_all.ensures.items ∙ first_part c.self.inside.pending.items _ _ _ c.in_default.ensures.ok start in (
      same_queues _ _ same refl c.self.invariant.0,
      same_listed _ _ _ _ same (λ t p. refl) c.self.invariant.1,
      subst (ArePending (get nat_cmp c.prepare_all.new.queues)) (sym back) (same_pending _ _ _ same c.self.invariant.2),
    )

pub invariant_of-self-in_default-prepare_all : goal.invariant_of-self-in_default-prepare_all
invariant_of-self-in_default-prepare_all c =
    let start : c.len-start.result ≡ length c.self.inside.pending.items = omega (arith, c.len-start.ensures, c.self.inside.pending.ok.0) in
    let key : c.as_ref.result.now ≡ key_of_event c.args.event.now = c.as_ref.ensures ∙ c.key.ensures in
    let changed = λ (n : ℕ). c.in_default-prepare_all.ensures.ok n ∙ ap (λ ns. changed_in (gains c.args.event.now) ns (get nat_cmp c.self.inside.queues) n) (last_part c.self.inside.pending.items _ _ _ (c.deref.ensures.value ∙ c.in_default.ensures.ok) start) in
    let is = prepares c.args.tree c.args.event.now _ (get nat_cmp c.self.inside.queues) (get nat_cmp c.prepare_all.new.queues)
    (λ n. found_is (get nat_cmp c.self.inside.queues) (lists_of c.self.inside.lists) c.self.invariant.1 c.args.tree c.as_ref.result.now n ∙ ap (λ k. waits_in c.args.tree k (get nat_cmp c.self.inside.queues n)) key)
    changed in (
      prepared_queues c.args.tree c.args.event.now _ _ is refl c.self.invariant.0,
      prepared_listed c.args.tree c.args.event.now _ _ _ is c.self.invariant.1,
      subst (ArePending (get nat_cmp c.prepare_all.new.queues)) (sym c.in_default.ensures.ok) (prepared_pending c.args.event.now c.self.inside.pending.items _ _ _ changed c.self.invariant.2),
    )
