-- The scan law, by one fact about the scan's slot that every step keeps.
use Rattle.std.proofs.Common.{◌≡◌, ◌≤◌, ◌+◌, ◌∙◌, ◌⊎◌, inl, inr, ℕ, Bool, true, false, cond, ◌||◌, filter, List, [], ◌∷◌, ◌++◌, append_assoc, append-nil, Option, Some, None, option_map, sym, refl, ap, subst, le_trans, le_of_eq}
use Rattle.std.specs.Prelude.{reverse}
use Rattle.std.proofs.lemmas.Bool.{eqb-true}
use Rattle.std.specs.declared.ops.Bound.{Bound}
use Rattle.sled_nodes.proofs.Basics.{none_some, some_is, true_false}
use Rattle.sled_nodes.specs.Order.{Key}
use Rattle.sled_nodes.specs.Ranges.{Range, is_in_range, pairs_in}
use Rattle.sled_store.specs.In.{In}
use Rattle.sled_store.specs.theory.Facts.{put_here}
use Rattle.sled_model.specs.Maps.{Map, Maps}
use Rattle.sled_model.specs.State.{State, NamedTree, CallInFlight}
use Rattle.sled_model.specs.Refusal.{IsClosed, IsDropped, ToStep, first_of, foreign_test, is_number, dropped_test, must_refuse_of, operator_test, must_refuse}
use Rattle.sled_model.specs.Scan.{is_in_rest, Before, ReadsPart}
use Rattle.sled_model.specs.Transition.{Configuration, Transition, transition_as, Decide}
use Rattle.sled_model.specs.declared.call.Call.TheVariants.{Scan}
use Rattle.sled_model.specs.declared.tree.Tree.{Tree}
use Rattle.sled_model.specs.declared.reply.Reply.{Reply}
use Rattle.sled_model.specs.declared.outcome.Step.{Step}
use Rattle.sled_model.specs.declared.outcome.Step.TheVariants as step
use Rattle.sled_model.specs.declared.outcome.Outcome.{Outcome}
use Rattle.sled_model.specs.declared.outcome.Outcome.TheVariants as outcome
use Rattle.sled_model.proofs.Tests.{first_none, passed}
use Rattle.scan_laws.specs.Scanned.{is_own, given_by, yielded, InOrder, HasPair, HasKey, Ascend, ChangesBeside, RunsBeside, NoSteps, OneMore, OneBeside, run_alone, AtSomeMoment, AtOwnSteps, ScanLaw, ScanLawAlone}
use Rattle.scan_laws.proofs.Lists.{in_left, in_right, in_either, ordered_left, ordered_both, in_turned, in_turned_back, ordered_turned, in_kept, passes, keeps_in, ordered_kept, ordered_map, in_range_reversed}
use Rattle.scan_laws.proofs.Staying.{AscendOpen, Leaves, leaves}

abbrev Pair : Type 0
Pair = Key × Key

-- where no test refuses a step of a call, the database is open, and the tree of its name has its number
tests_passed : (s : State) (f : CallInFlight) → must_refuse s (ToStep f) ≡ None → (s.is_open ≡ true) × (is_number f.tree.number (s.trees f.tree.name) ≡ true)
tests_passed s f e =
    let of_all = (first_none (must_refuse_of s (f.tree ∷ [])) (operator_test s (ToStep f)) e).0 in
    let of_open = first_none (cond s.is_open None (Some IsClosed)) (first_of (foreign_test s.name (f.tree ∷ [])) (dropped_test s (f.tree ∷ []))) of_all in
    let of_tree = first_none (foreign_test s.name (f.tree ∷ [])) (dropped_test s (f.tree ∷ [])) of_open.1 in (
      passed s.is_open IsClosed of_open.0,
      passed (is_number f.tree.number (s.trees f.tree.name)) (IsDropped f.tree.name) of_tree.1,
    )

-- What holds of the scan in its slot: `given` are the pairs that it gave, `was` tells of a pair that it was in the map, and `kept` of a
-- key that it was there at each step so far
record Known (tree : Tree) (bounds : Range) (given : List Pair) (was : Pair → Type 0) (kept : Key → Type 0) (f : CallInFlight) : Type 0 where
  its : f.tree ≡ tree
  ordered : InOrder bounds.back (given ++ f.waiting)
  inside : (e : Pair) → In e (given ++ f.waiting) → is_in_range bounds e.0 ≡ true
  rest : (k : Key) → is_in_rest f.rest k ≡ true → is_in_range bounds k ≡ true
  way : (r : Range) → f.rest ≡ Some r → r.back ≡ bounds.back
  ahead : (e : Pair) (k : Key) → In e (given ++ f.waiting) → is_in_rest f.rest k ≡ true → Before bounds.back e.0 k
  seen : (e : Pair) → In e f.waiting → was e
  whole : (k : Key) → is_in_range bounds k ≡ true → kept k → (is_in_rest f.rest k ≡ true) ⊎ ((v : Key) × In (k, v) (given ++ f.waiting))

record Holds (slot : ℕ) (tree : Tree) (bounds : Range) (given : List Pair) (was : Pair → Type 0) (kept : Key → Type 0) (s : State) : Type 0 where
  ascend : AscendOpen s
  numbered : slot ≤ s.slots_given
  ordered : InOrder bounds.back given
  inside : (e : Pair) → In e given → is_in_range bounds e.0 ≡ true
  known : (f : CallInFlight) → s.slots slot ≡ Some f → Known tree bounds given was kept f

widen_known : {tree : Tree} {bounds : Range} {given : List Pair} {was more : Pair → Type 0} {kept less : Key → Type 0} {f : CallInFlight}
    → ((e : Pair) → was e → more e) → ((k : Key) → less k → kept k) → Known tree bounds given was kept f → Known tree bounds given more less f
widen_known w l h = record {
  its = h.its;
  ordered = h.ordered;
  inside = h.inside;
  rest = h.rest;
  way = h.way;
  ahead = h.ahead;
  seen = λ e i. w e (h.seen e i);
  whole = λ k b g. h.whole k b (l k g);
}

widen : {slot : ℕ} {tree : Tree} {bounds : Range} {given : List Pair} {was more : Pair → Type 0} {kept less : Key → Type 0} {s : State}
    → ((e : Pair) → was e → more e) → ((k : Key) → less k → kept k) → Holds slot tree bounds given was kept s → Holds slot tree bounds given more less s
widen w l h = record { ascend = h.ascend; numbered = h.numbered; ordered = h.ordered; inside = h.inside; known = λ f e. widen_known w l (h.known f e) }

-- a step that is not the slot's own
other : {slot : ℕ} {tree : Tree} {bounds : Range} {given : List Pair} {was : Pair → Type 0} {kept : Key → Type 0} {s : Step} {a b : State}
    → Leaves slot s a b → is_own slot s ≡ false → Holds slot tree bounds given was kept a → Holds slot tree bounds given was kept b
other {slot = slot} {tree = tree} {bounds = bounds} {given = given} {was = was} {kept = kept} {a = a} {b = b} l o h = record {
  ascend = l.ascend h.ascend;
  numbered = le_trans h.numbered l.given;
  ordered = h.ordered;
  inside = h.inside;
  known = λ f e. go f e (l.slots h.numbered o);
}
  where
    go : (f : CallInFlight) → b.slots slot ≡ Some f → (b.slots slot ≡ a.slots slot) ⊎ (b.slots slot ≡ None) → Known tree bounds given was kept f
    go f e (inl same) = h.known f (sym same ∙ e)
    go f e (inr none) = none_some (sym none ∙ e)

-- a change beside
beside : {slot : ℕ} {tree : Tree} {bounds : Range} {given : List Pair} {was : Pair → Type 0} {kept : Key → Type 0} {a b : Configuration}
    → ChangesBeside a b → Holds slot tree bounds given was kept a.state → Holds slot tree bounds given was kept b.state
beside {slot = slot} c h = record {
  ascend = λ o. c.ascend;
  numbered = le_trans h.numbered (le_of_eq (sym c.slots_given));
  ordered = h.ordered;
  inside = h.inside;
  known = λ f e. h.known f (sym (ap (λ s. s slot) c.slots) ∙ e);
}

-- the pairs of the part of a range that is read
in_part : (part : Range) (map : Map) (e : Pair) → In e (pairs_in part map) → (In e map) × (is_in_range part e.0 ≡ true)
in_part part map e = go part.back
  where
    go : (b : Bool) → In e (cond b (reverse (filter (λ (z : Pair). is_in_range part z.0) map)) (filter (λ (z : Pair). is_in_range part z.0) map)) → (In e map) × (is_in_range part e.0 ≡ true)
    go true i = let j = in_turned_back e _ i in (in_kept (λ z. is_in_range part z.0) e map j, passes (λ z. is_in_range part z.0) e map j)
    go false i = (in_kept (λ z. is_in_range part z.0) e map i, passes (λ z. is_in_range part z.0) e map i)

part_in : (part : Range) (map : Map) (e : Pair) → In e map → is_in_range part e.0 ≡ true → In e (pairs_in part map)
part_in part map e i h = go part.back
  where
    go : (b : Bool) → In e (cond b (reverse (filter (λ (z : Pair). is_in_range part z.0) map)) (filter (λ (z : Pair). is_in_range part z.0) map))
    go true = in_turned e _ (keeps_in (λ z. is_in_range part z.0) e map i h)
    go false = keeps_in (λ z. is_in_range part z.0) e map i h

part_ordered : (part : Range) (back : Bool) (map : Map) → part.back ≡ back → InOrder false map → InOrder back (pairs_in part map)
part_ordered part back map e h = subst (λ b. InOrder b (pairs_in part map)) e (go part.back)
  where
    go : (b : Bool) → InOrder b (cond b (reverse (filter (λ (z : Pair). is_in_range part z.0) map)) (filter (λ (z : Pair). is_in_range part z.0) map))
    go true = ordered_turned _ (ordered_kept false _ map h)
    go false = ordered_kept false _ map h

or_left : (a b : Bool) → a ≡ true → a || b ≡ true
or_left true b e = refl
or_left false b e = cc

or_right : (a b : Bool) → b ≡ true → a || b ≡ true
or_right true b e = refl
or_right false b e = e

or_either : (a b : Bool) → a || b ≡ true → (a ≡ true) ⊎ (b ≡ true)
or_either true b e = inl refl
or_either false b e = inr e

module _ {slot : ℕ} {tree : Tree} {bounds : Range} {given : List Pair} {was : Pair → Type 0} {kept : Key → Type 0} (a : State) (h : Holds slot tree bounds given was kept a) where
  abbrev Was : Pair → Type 0
  Was e = was e ⊎ HasPair tree e a

  abbrev Kept : Key → Type 0
  Kept k = kept k × HasKey tree k a

  -- the scan reads a part of its range
  reads : (f : CallInFlight) (t : NamedTree) (after : List Pair) (left : Option Range) → Known tree bounds given was kept f → must_refuse a (ToStep f) ≡ None → a.trees f.tree.name ≡ Some t → ReadsPart t.map f.waiting f.rest after left
      → Known tree bounds given Was Kept (record f { turns = f.turns + 1; waiting = after; rest = left })
  reads f t after left k free there r = record {
    its = k.its;
    ordered = ordered_both bounds.back given after h.ordered (subst (λ l. InOrder bounds.back l) (sym r.wait) (part_ordered r.part bounds.back t.map (r.takes.way ∙ k.way r.range r.had) (ordered_map t.map (h.ascend (tests_passed a f free).0 f.tree.name t.map (ap (λ o. option_map (λ (z : NamedTree). z.map) o) there)))))
        (λ e g i j. k.ahead e g.0 (in_left e given f.waiting i) (in_rest g.0 (or_left _ _ (from_after g j).1)));
    inside = λ e i. elim (in_either e given after i) [ inl l ↦ h.inside e l | inr j ↦ k.rest e.0 (in_rest e.0 (or_left _ _ (from_after e j).1)) ];
    rest = λ q g. k.rest q (in_rest q (or_right _ _ g));
    way = λ q e. r.takes.way_left q e ∙ k.way r.range r.had;
    ahead = λ e q i g. elim (in_either e given after i) [
      | inl l ↦ k.ahead e q (in_left e given f.waiting l) (in_rest q (or_right _ _ g))
      | inr j ↦ subst (λ b. Before b e.0 q) (k.way r.range r.had) (r.takes.before e.0 q (from_after e j).1 g)
    ];
    seen = λ e i. inr (has e (from_after e i).0);
    whole = λ q b g. elim (k.whole q b g.0) [
      | inl was_rest ↦ elim (or_either _ _ (sym (r.takes.splits q) ∙ of_rest q was_rest)) [
        | inl in_part_now ↦ inr (g.1.0, in_right (q, g.1.0) given after (subst (λ l. In (q, g.1.0) l) (sym r.wait) (part_in r.part t.map (q, g.1.0) (had (q, g.1.0) g.1.1) in_part_now)))
        | inr left_now ↦ inl left_now
      ]
      | inr found ↦ inr (found.0, in_left (q, found.0) given after (subst (λ l. In (q, found.0) l) (ap (λ l. given ++ l) r.none ∙ append-nil given) found.1))
    ];
  }
    where
      from_after : (e : Pair) → In e after → (In e t.map) × (is_in_range r.part e.0 ≡ true)
      from_after e j = in_part r.part t.map e (subst (λ l. In e l) r.wait j)

      of_rest : (q : Key) → is_in_rest f.rest q ≡ true → is_in_range r.range q ≡ true
      of_rest q e = sym (ap (λ o. is_in_rest o q) r.had) ∙ e

      in_rest : (q : Key) → is_in_range r.part q || is_in_rest left q ≡ true → is_in_rest f.rest q ≡ true
      in_rest q e = ap (λ o. is_in_rest o q) r.had ∙ r.takes.splits q ∙ e

      has : (e : Pair) → In e t.map → HasPair tree e a
      has e i = record {
        named = t;
        there = ap (λ (z : Tree). a.trees z.name) (sym k.its) ∙ there;
        same = eqb-true t.number f.tree.number (ap (is_number f.tree.number) (sym there) ∙ (tests_passed a f free).1) ∙ ap (λ (z : Tree). z.number) k.its;
        pair = i;
      }

      had : (e : Pair) → HasPair tree e a → In e t.map
      had e p = subst (λ (z : NamedTree). In e z.map) (some_is (sym p.there ∙ ap (λ (z : Tree). a.trees z.name) (sym k.its) ∙ there)) p.pair

  -- the call in the slot is another, or gone
  gone : {b : State} → AscendOpen b → a.slots_given ≤ b.slots_given → b.slots slot ≡ None → Holds slot tree bounds given Was Kept b
  gone l n e = record { ascend = l; numbered = le_trans h.numbered n; ordered = h.ordered; inside = h.inside; known = λ f g. none_some (sym e ∙ g) }

  goes_on : {b : State} (more : List Pair) (f : CallInFlight) → AscendOpen b → a.slots_given ≤ b.slots_given → b.slots slot ≡ Some f → Known tree bounds (given ++ more) Was Kept f → Holds slot tree bounds (given ++ more) Was Kept b
  goes_on more f l n e k = record {
    ascend = l;
    numbered = le_trans h.numbered n;
    ordered = ordered_left bounds.back (given ++ more) f.waiting k.ordered;
    inside = λ x i. k.inside x (in_left x (given ++ more) f.waiting i);
    known = λ g i. subst (λ z. Known tree bounds (given ++ more) Was Kept z) (some_is (sym e ∙ i)) k;
  }

  with_none : {s : State} → Holds slot tree bounds given Was Kept s → Holds slot tree bounds (given ++ []) Was Kept s
  with_none {s = s} k = subst (λ l. Holds slot tree bounds l Was Kept s) (sym (append-nil given)) k

  stays_known : (f : CallInFlight) (turns : ℕ) → Known tree bounds given was kept f → Known tree bounds given Was Kept (record f { turns = turns })
  stays_known f turns k = record { its = k.its; ordered = k.ordered; inside = k.inside; rest = k.rest; way = k.way; ahead = k.ahead; seen = λ e i. inl (k.seen e i); whole = λ q b g. k.whole q b g.0 }

  moved_known : (f : CallInFlight) (t : NamedTree) (after : List Pair) (left : Option Range) → Known tree bounds given was kept f → must_refuse a (ToStep f) ≡ None → a.trees f.tree.name ≡ Some t
      → ((after ≡ f.waiting) × (left ≡ f.rest)) ⊎ ReadsPart t.map f.waiting f.rest after left → Known tree bounds given Was Kept (record f { turns = f.turns + 1; waiting = after; rest = left })
  moved_known f t after left k free there (inl same) = subst (λ z. Known tree bounds given Was Kept (record f { turns = f.turns + 1; waiting = z; rest = left })) (sym same.0)
      (subst (λ z. Known tree bounds given Was Kept (record f { turns = f.turns + 1; rest = z })) (sym same.1) (stays_known f (f.turns + 1) k))
  moved_known f t after left k free there (inr r) = reads f t after left k free there r

  -- the first pair that waits is given
  gives : (f : CallInFlight) (p : Pair) (more : List Pair) → f.waiting ≡ p ∷ more → Known tree bounds given was kept f → Known tree bounds (given ++ p ∷ []) Was Kept (record f { turns = 0; waiting = more })
  gives f p more e k = record {
    its = k.its;
    ordered = subst (λ l. InOrder bounds.back l) joined k.ordered;
    inside = λ x i. k.inside x (subst (λ l. In x l) (sym joined) i);
    rest = k.rest;
    way = k.way;
    ahead = λ x q i g. k.ahead x q (subst (λ l. In x l) (sym joined) i) g;
    seen = λ x i. inl (k.seen x (subst (λ l. In x l) (sym e) (inr i)));
    whole = λ q b g. elim (k.whole q b g.0) [ inl l ↦ inl l | inr r ↦ inr (r.0, subst (λ l. In (q, r.0) l) joined r.1) ];
  }
    where
      joined : given ++ f.waiting ≡ (given ++ p ∷ []) ++ more
      joined = ap (λ l. given ++ l) e ∙ sym (append_assoc given (p ∷ []) more)

-- a step of the scan's slot
own : (slot : ℕ) (tree : Tree) (bounds : Range) (given : List Pair) (was : Pair → Type 0) (kept : Key → Type 0) (a : Configuration) (o : Outcome) (b : Configuration) (maps : List Maps)
    → transition_as a (step.Step slot) o b maps → Holds slot tree bounds given was kept a.state
    → Holds slot tree bounds (given ++ given_by o) (λ e. was e ⊎ HasPair tree e a.state) (λ k. kept k × HasKey tree k a.state) b.state
own slot tree bounds given was kept a outcome.NoSuchSlot b maps t h =
    let l = leaves slot a (step.Step slot) outcome.NoSuchSlot b maps t in
    with_none a.state h (gone a.state h (l.ascend h.ascend) l.given (ap (λ (z : State). z.slots slot) t.0.1 ∙ t.0.0))
own slot tree bounds given was kept a outcome.Moved b maps t h =
    let l = leaves slot a (step.Step slot) outcome.Moved b maps t in
    goes_on a.state h [] _ (l.ascend h.ascend) l.given (ap (λ (z : State). z.slots slot) t.0.is ∙ put_here a.state.slots slot _)
    (subst (λ g. Known tree bounds g (λ e. was e ⊎ HasPair tree e a.state) (λ k. kept k × HasKey tree k a.state) (record (t.0.flying) { turns = t.0.flying.turns + 1; waiting = t.0.waiting; rest = t.0.rest })) (sym (append-nil given))
    (moved_known a.state h t.0.flying t.0.tree t.0.waiting t.0.rest (h.known t.0.flying t.0.here) t.0.free t.0.there t.0.reads))
own slot tree bounds given was kept a (outcome.Yielded key value) b maps t h =
    let l = leaves slot a (step.Step slot) (outcome.Yielded key value) b maps t in
    goes_on a.state h ((key, value) ∷ []) _ (l.ascend h.ascend) l.given (ap (λ (z : State). z.slots slot) t.0.is ∙ put_here a.state.slots slot _)
    (gives a.state h t.0.flying (key, value) t.0.more t.0.waits (h.known t.0.flying t.0.here))
own slot tree bounds given was kept a (outcome.Decided reply) b maps t h =
    let l = leaves slot a (step.Step slot) (outcome.Decided reply) b maps t in
    with_none a.state h (gone a.state h (l.ascend h.ascend) l.given (ap (λ (z : State). z.slots slot) t.0.is ∙ put_here a.state.slots slot None))
own slot tree bounds given was kept a (outcome.Refused e) b maps t h =
    let l = leaves slot a (step.Step slot) (outcome.Refused e) b maps t in
    with_none a.state h (gone a.state h (l.ascend h.ascend) l.given (ap (λ (z : State). z.slots slot) t.0.is ∙ put_here a.state.slots slot None))
own slot tree bounds given was kept a (outcome.Begun i) b maps t h = absurd t
own slot tree bounds given was kept a outcome.Abandoned b maps t h = absurd t

of_step : (slot : ℕ) (s : Step) → is_own slot s ≡ true → s ≡ step.Step slot
of_step slot (step.Step i) e = ap (λ n. step.Step n) (eqb-true i slot e)
of_step slot (step.Begin tree call) e = true_false (sym e)
of_step slot (step.Abandon i) e = true_false (sym e)
of_step slot (step.Whole w) e = true_false (sym e)

-- any step
one : (slot : ℕ) (tree : Tree) (bounds : Range) (given : List Pair) (was : Pair → Type 0) (kept : Key → Type 0) (a : Configuration) (s : Step) (o : Outcome) (b : Configuration) (maps : List Maps)
    → transition_as a s o b maps → Holds slot tree bounds given was kept a.state
    → Holds slot tree bounds (given ++ cond (is_own slot s) (given_by o) []) (λ e. was e ⊎ HasPair tree e a.state) (λ k. kept k × (is_own slot s ≡ true → HasKey tree k a.state)) b.state
one slot tree bounds given was kept a s o b maps t h = go (is_own slot s) refl
  where
    go : (c : Bool) → is_own slot s ≡ c → Holds slot tree bounds (given ++ cond c (given_by o) []) (λ e. was e ⊎ HasPair tree e a.state) (λ k. kept k × (c ≡ true → HasKey tree k a.state)) b.state
    go true e = widen (λ x i. i) (λ k g. (g.0, g.1 refl)) (own slot tree bounds given was kept a o b maps (subst (λ z. transition_as a z o b maps) (of_step slot s e) t) h)
    go false e = subst (λ l. Holds slot tree bounds l (λ x. was x ⊎ HasPair tree x a.state) (λ k. kept k × (false ≡ true → HasKey tree k a.state)) b.state) (sym (append-nil given))
        (widen (λ x i. inl i) (λ k g. g.0) (other (leaves slot a s o b maps t) e h))

-- a run
all : (slot : ℕ) (tree : Tree) (bounds : Range) (given : List Pair) (was : Pair → Type 0) (kept : Key → Type 0) {a b : Configuration} {steps : List Step} {outcomes : List Outcome} (run : RunsBeside a steps outcomes b)
    → Holds slot tree bounds given was kept a.state
    → Holds slot tree bounds (given ++ yielded slot steps outcomes) (λ e. was e ⊎ AtSomeMoment (HasPair tree e) run) (λ k. kept k × AtOwnSteps slot (HasKey tree k) run) b.state
all slot tree bounds given was kept (NoSteps {s = s}) h = subst (λ l. Holds slot tree bounds l (λ e. was e ⊎ HasPair tree e s.state) (λ k. kept k × Unit {0}) s.state) (sym (append-nil given)) (widen (λ x i. inl i) (λ k g. g.0) h)
all slot tree bounds given was kept (OneMore {a = a} {m = m} {b = b} {step = s} {steps = steps} {outcome = o} {outcomes = outcomes} {added = added} first rest) h =
    subst (λ l. Holds slot tree bounds l (λ e. was e ⊎ (HasPair tree e a.state ⊎ AtSomeMoment (HasPair tree e) rest)) (λ k. kept k × ((is_own slot s ≡ true → HasKey tree k a.state) × AtOwnSteps slot (HasKey tree k) rest)) b.state)
    (append_assoc given (cond (is_own slot s) (given_by o) []) (yielded slot steps outcomes))
    (widen (λ e i. elim i [ inl j ↦ elim j [ inl w ↦ inl w | inr x ↦ inr (inl x) ] | inr y ↦ inr (inr y) ]) (λ k g. ((g.0, g.1.0), g.1.1))
    (all slot tree bounds (given ++ cond (is_own slot s) (given_by o) []) (λ e. was e ⊎ HasPair tree e a.state) (λ k. kept k × (is_own slot s ≡ true → HasKey tree k a.state)) rest
    (one slot tree bounds given was kept a s o m added first.is h)))
all slot tree bounds given was kept (OneBeside {a = a} change rest) h =
    widen (λ e i. elim i [ inl j ↦ elim j [ inl w ↦ inl w | inr x ↦ inr (inl x) ] | inr y ↦ inr (inr y) ]) (λ k g. g)
    (all slot tree bounds given (λ e. was e ⊎ HasPair tree e a.state) kept rest
    (widen (λ e i. inl i) (λ k g. g) (beside change h)))

-- as it begins
begins : (a b : Configuration) (tree : Tree) (lo hi : Bound Key) (back : Bool) (slot : ℕ) (none : List Maps) → Ascend a.state → Transition a (step.Begin tree (Scan lo hi back)) (outcome.Begun slot) b none
    → Holds slot tree (record { lo = lo; hi = hi; back = back }) [] (λ e. ⊥) (λ k. Unit {0}) b.state
begins a b tree lo hi back slot none l t = record {
  ascend = (leaves slot a (step.Begin tree (Scan lo hi back)) (outcome.Begun slot) b none t.is).ascend (λ o. l);
  numbered = le_of_eq (sym (ap (λ (z : State). z.slots_given) t.is.0.is));
  ordered = tt;
  inside = λ e i. absurd i;
  known = λ f e. subst (λ z. Known tree bounds [] (λ x. ⊥) (λ k. Unit {0}) z) (some_is (sym (ap (λ (z : State). z.slots slot) t.is.0.is ∙ put_here a.state.slots slot _) ∙ e)) first;
}
  where
    bounds : Range
    bounds = record { lo = lo; hi = hi; back = back }

    first : Known tree (record { lo = lo; hi = hi; back = back }) [] (λ x. ⊥) (λ k. Unit {0}) (record { tree = tree; call = Scan lo hi back; turns = 0; waiting = []; rest = Some (record { lo = lo; hi = hi; back = back }) })
    first = record {
      its = refl;
      ordered = tt;
      inside = λ e i. absurd i;
      rest = λ k e. e;
      way = λ r e. ap (λ (z : Range). z.back) (sym (some_is e));
      ahead = λ e k i. absurd i;
      seen = λ e i. absurd i;
      whole = λ k b g. inl b;
    }

pub scan_law : ScanLaw
scan_law a b c tree lo hi back slot none steps outcomes l t run = record {
  ordered = now.ordered;
  within = now.inside;
  seen = λ key value d more u. elim ((now.known u.is.0.flying u.is.0.here).seen (key, value) (subst (λ z. In (key, value) z) (sym u.is.0.waits) (inl refl))) [ inl w ↦ absurd w | inr m ↦ m ];
  complete = λ reply d more u key inside own_steps. end key u.is.0 ((now.known u.is.0.flying u.is.0.here).whole key inside (tt, own_steps));
}
  where
    bounds : Range
    bounds = record { lo = lo; hi = hi; back = back }

    now : Holds slot tree (record { lo = lo; hi = hi; back = back }) (yielded slot steps outcomes) (λ e. ⊥ ⊎ AtSomeMoment (HasPair tree e) run) (λ k. Unit {0} × AtOwnSteps slot (HasKey tree k) run) c.state
    now = all slot tree (record { lo = lo; hi = hi; back = back }) [] (λ e. ⊥) (λ k. Unit {0}) run (begins a b tree lo hi back slot none l t)

    end : (key : Key) {reply : Reply} {new : State} (u : Decide c.state slot reply new) → (is_in_rest u.flying.rest key ≡ true) ⊎ ((v : Key) × In (key, v) (yielded slot steps outcomes ++ u.flying.waiting)) → (v : Key) × In (key, v) (yielded slot steps outcomes)
    end key u (inl left) = absurd (in_range_reversed u.flying.rest key u.done left)
    end key u (inr found) = (found.0, subst (λ z. In (key, found.0) z) (ap (λ z. yielded slot steps outcomes ++ z) u.none ∙ append-nil (yielded slot steps outcomes)) found.1)

pub scan_law_alone : ScanLawAlone
scan_law_alone a b c tree lo hi back slot none maps steps outcomes t l run = scan_law a b c tree lo hi back slot none steps outcomes l t (run_alone run)
