-- What is known of scans that are under way, at every step.
use Rattle.std.proofs.Common.{◌≡◌, ◌≤◌, ◌∙◌, ◌⊎◌, inl, inr, ℕ, Bool, true, false, cond, List, [], ◌∷◌, ◌++◌, append_assoc, append-nil, Option, Some, None, option_map, sym, refl, ap, subst}
use Rattle.std.proofs.lemmas.Bool.{eqb-true}
use Rattle.std.specs.declared.ops.Bound.{Bound}
use Rattle.sled_nodes.proofs.Basics.{none_some, some_is, true_false}
use Rattle.sled_nodes.specs.Order.{Key}
use Rattle.sled_nodes.specs.Ranges.{Range, is_in_range}
use Rattle.sled_store.specs.In.{In}
use Rattle.sled_store.specs.theory.Facts.{put_here}
use Rattle.sled_model.specs.Maps.{Maps}
use Rattle.sled_model.specs.Refusal.{IsClosed, IsDropped, ToStep, first_of, foreign_test, is_number, dropped_test, must_refuse_of, operator_test, must_refuse}
use Rattle.sled_model.specs.State.{State, NamedTree, CallInFlight}
use Rattle.sled_model.specs.Transition.{Configuration, Transition, transition_as}
use Rattle.sled_model.specs.declared.tree.Tree.{Tree}
use Rattle.sled_model.specs.declared.reply.Reply.{Reply}
use Rattle.sled_model.specs.declared.outcome.Step.{Step}
use Rattle.sled_model.specs.declared.outcome.Step.TheVariants as step
use Rattle.sled_model.specs.declared.outcome.Outcome.{Outcome}
use Rattle.sled_model.specs.declared.outcome.Outcome.TheVariants as outcome
use Rattle.sled_model.proofs.Tests.{first_none, passed}
use Rattle.scan_laws.specs.Scanned.{Ascend, ChangesBeside, HasPair, HasKey, IsScanned, RunsBeside, NoSteps, OneMore, OneBeside, AtSomeMoment, AtOwnSteps, given_by, is_own, yielded}
use Rattle.scan_laws.proofs.Scanning.{scan_law}
use Rattle.scan_laws.proofs.Staying.{leaves}
use Rattle.machine_shared.specs.Moments.{AtOneMoment, AtEachMoment}
use Rattle.machine_shared.specs.Scanned.{gave_in, IsPairOf, IsKeyOf}
use Rattle.machine_shared.specs.declared.scans.ScanNote.{ScanNote}
use Rattle.machine_shared.specs.UnderWay.{Throughout, IsNumbered, IsOfMoment, IsUnderWay}
use Rattle.machine_shared.proofs.Moments.{GoesOn, still_at}

abbrev Pair : Type 0
Pair = Key × Key

-- ---- runs that go on

abbrev pub more_step : {a m b : Configuration} {ss : List Step} {os : List Outcome} {s : Step} {o : Outcome} {added : List Maps} → RunsBeside a ss os m → Transition m s o b added → RunsBeside a (ss ++ s ∷ []) (os ++ o ∷ []) b
more_step NoSteps t = OneMore t NoSteps
more_step (OneMore one rest) t = OneMore one (more_step rest t)
more_step (OneBeside change rest) t = OneBeside change (more_step rest t)

abbrev pub more_change : {a m b : Configuration} {ss : List Step} {os : List Outcome} → RunsBeside a ss os m → ChangesBeside m b → RunsBeside a ss os b
more_change NoSteps c = OneBeside c NoSteps
more_change (OneMore one rest) c = OneMore one (more_change rest c)
more_change (OneBeside change rest) c = OneBeside change (more_change rest c)

yields_more : (slot : ℕ) {a m : Configuration} {ss : List Step} {os : List Outcome} → RunsBeside a ss os m → (s : Step) (o : Outcome) → yielded slot (ss ++ s ∷ []) (os ++ o ∷ []) ≡ yielded slot ss os ++ cond (is_own slot s) (given_by o) []
yields_more slot NoSteps s o = append-nil (cond (is_own slot s) (given_by o) [])
yields_more slot (OneMore {step = x} {steps = ss} {outcome = y} {outcomes = os} one rest) s o =
    ap (λ l. cond (is_own slot x) (given_by y) [] ++ l) (yields_more slot rest s o) ∙ sym (append_assoc (cond (is_own slot x) (given_by y) []) (yielded slot ss os) (cond (is_own slot s) (given_by o) []))
yields_more slot (OneBeside change rest) s o = yields_more slot rest s o

throughout_as : (is so : State → Type 0) → ((s : State) → is s → so s) → {a b : Configuration} {ss : List Step} {os : List Outcome} (run : RunsBeside a ss os b) → Throughout is run → Throughout so run
throughout_as is so f (NoSteps {s = s}) h = f s.state h
throughout_as is so f (OneMore {a = a} one rest) h = (f a.state h.0, throughout_as is so f rest h.1)
throughout_as is so f (OneBeside {a = a} change rest) h = (f a.state h.0, throughout_as is so f rest h.1)

throughout_step : (is : State → Type 0) {a m b : Configuration} {ss : List Step} {os : List Outcome} {s : Step} {o : Outcome} {added : List Maps} (run : RunsBeside a ss os m) (t : Transition m s o b added)
    → Throughout is run → is b.state → Throughout is (more_step run t)
throughout_step is NoSteps t h i = (h, i)
throughout_step is (OneMore one rest) t h i = (h.0, throughout_step is rest t h.1 i)
throughout_step is (OneBeside change rest) t h i = (h.0, throughout_step is rest t h.1 i)

throughout_change : (is : State → Type 0) {a m b : Configuration} {ss : List Step} {os : List Outcome} (run : RunsBeside a ss os m) (c : ChangesBeside m b) → Throughout is run → is b.state → Throughout is (more_change run c)
throughout_change is NoSteps c h i = (h, i)
throughout_change is (OneMore one rest) c h i = (h.0, throughout_change is rest c h.1 i)
throughout_change is (OneBeside change rest) c h i = (h.0, throughout_change is rest c h.1 i)

own_step : (slot : ℕ) (is : State → Type 0) {a m b : Configuration} {ss : List Step} {os : List Outcome} {s : Step} {o : Outcome} {added : List Maps} (run : RunsBeside a ss os m) (t : Transition m s o b added)
    → AtOwnSteps slot is run → (is_own slot s ≡ true → is m.state) → AtOwnSteps slot is (more_step run t)
own_step slot is NoSteps t h i = (i, tt)
own_step slot is (OneMore one rest) t h i = (h.0, own_step slot is rest t h.1 i)
own_step slot is (OneBeside change rest) t h i = own_step slot is rest t h i

own_change : (slot : ℕ) (is : State → Type 0) {a m b : Configuration} {ss : List Step} {os : List Outcome} (run : RunsBeside a ss os m) (c : ChangesBeside m b) → AtOwnSteps slot is run → AtOwnSteps slot is (more_change run c)
own_change slot is NoSteps c h = tt
own_change slot is (OneMore one rest) c h = (h.0, own_change slot is rest c h.1)
own_change slot is (OneBeside change rest) c h = own_change slot is rest c h

-- what is so at some moment of a run is so where something else is, which is so throughout
both_at : (is so : State → Type 0) {a b : Configuration} {ss : List Step} {os : List Outcome} (run : RunsBeside a ss os b) → AtSomeMoment is run → Throughout so run → (s : State) × is s × so s
both_at is so (NoSteps {s = s}) h t = (s.state, h, t)
both_at is so (OneMore {a = a} one rest) (inl h) t = (a.state, h, t.0)
both_at is so (OneMore one rest) (inr h) t = both_at is so rest h t.1
both_at is so (OneBeside {a = a} change rest) (inl h) t = (a.state, h, t.0)
both_at is so (OneBeside change rest) (inr h) t = both_at is so rest h t.1

own_of : (slot : ℕ) (is so both : State → Type 0) → ((s : State) → is s → so s → both s) → {a b : Configuration} {ss : List Step} {os : List Outcome} (run : RunsBeside a ss os b) → AtOwnSteps slot is run → Throughout so run → AtOwnSteps slot both run
own_of slot is so both f NoSteps h t = tt
own_of slot is so both f (OneMore {a = a} one rest) h t = ((λ e. f a.state (h.0 e) t.0), own_of slot is so both f rest h.1 t.1)
own_of slot is so both f (OneBeside change rest) h t = own_of slot is so both f rest h t.1

-- ---- a step, and the scan in a slot

tree_is : (s : State) (tree : Tree) (o : Option NamedTree) → s.trees tree.name ≡ o → is_number tree.number o ≡ true → IsNumbered tree s
tree_is s tree None e h = true_false (sym h)
tree_is s tree (Some t) e h = record { named = t; there = e; same = eqb-true t.number tree.number h }

-- where no test refuses a step of a call, the tree of its name has its number
numbered_of : (s : State) (f : CallInFlight) → must_refuse s (ToStep f) ≡ None → IsNumbered f.tree s
numbered_of s f e =
    let of_all = (first_none (must_refuse_of s (f.tree ∷ [])) (operator_test s (ToStep f)) e).0 in
    let of_open = first_none (cond s.is_open None (Some IsClosed)) (first_of (foreign_test s.name (f.tree ∷ [])) (dropped_test s (f.tree ∷ []))) of_all in
    let of_tree = first_none (foreign_test s.name (f.tree ∷ [])) (dropped_test s (f.tree ∷ [])) of_open.1 in
    tree_is s f.tree (s.trees f.tree.name) refl (passed (is_number f.tree.number (s.trees f.tree.name)) (IsDropped f.tree.name) of_tree.1)

-- .. and the database is open
pub opens_of : (s : State) (f : CallInFlight) → must_refuse s (ToStep f) ≡ None → s.is_open ≡ true
opens_of s f e =
    let of_all = (first_none (must_refuse_of s (f.tree ∷ [])) (operator_test s (ToStep f)) e).0 in
    let of_open = first_none (cond s.is_open None (Some IsClosed)) (first_of (foreign_test s.name (f.tree ∷ [])) (dropped_test s (f.tree ∷ []))) of_all in
    passed s.is_open IsClosed of_open.0

-- the call that stands in the slot after a step of it stood there before, on the same tree, and no test refused the step
pub record WentOn (slot : ℕ) (s : State) (g : CallInFlight) : Type 0 where
  pub flying : CallInFlight
  pub here : s.slots slot ≡ Some flying
  pub free : must_refuse s (ToStep flying) ≡ None
  pub same : (g.tree ≡ flying.tree) × (g.call ≡ flying.call)

went_on : (a b : Configuration) (slot : ℕ) (o : Outcome) (maps : List Maps) → transition_as a (step.Step slot) o b maps → (g : CallInFlight) → b.state.slots slot ≡ Some g → WentOn slot a.state g
went_on a b slot outcome.NoSuchSlot maps t g e = none_some (sym (ap (λ (z : State). z.slots slot) t.0.1 ∙ t.0.0) ∙ e)
went_on a b slot outcome.Moved maps t g e = record {
  flying = t.0.flying;
  here = t.0.here;
  free = t.0.free;
  same =
      let is = some_is (sym e ∙ ap (λ (z : State). z.slots slot) t.0.is ∙ put_here a.state.slots slot _) in
      (ap (λ (f : CallInFlight). f.tree) is, ap (λ (f : CallInFlight). f.call) is);
}
went_on a b slot (outcome.Yielded key value) maps t g e = record {
  flying = t.0.flying;
  here = t.0.here;
  free = t.0.free;
  same =
      let is = some_is (sym e ∙ ap (λ (z : State). z.slots slot) t.0.is ∙ put_here a.state.slots slot _) in
      (ap (λ (f : CallInFlight). f.tree) is, ap (λ (f : CallInFlight). f.call) is);
}
went_on a b slot (outcome.Decided reply) maps t g e = none_some (sym (ap (λ (z : State). z.slots slot) t.0.is ∙ put_here a.state.slots slot None) ∙ e)
went_on a b slot (outcome.Refused x) maps t g e = none_some (sym (ap (λ (z : State). z.slots slot) t.0.is ∙ put_here a.state.slots slot None) ∙ e)
went_on a b slot (outcome.Begun i) maps t g e = absurd t
went_on a b slot outcome.Abandoned maps t g e = absurd t

-- .. and after any step
pub record WasThere (slot : ℕ) (s : Step) (a : State) (g : CallInFlight) : Type 0 where
  pub flying : CallInFlight
  pub here : a.slots slot ≡ Some flying
  pub same : (g.tree ≡ flying.tree) × (g.call ≡ flying.call)
  pub free : is_own slot s ≡ true → must_refuse a (ToStep flying) ≡ None

pub was_there : (a b : Configuration) (slot : ℕ) (s : Step) (o : Outcome) (maps : List Maps) → transition_as a s o b maps → slot ≤ a.state.slots_given → (g : CallInFlight) → b.state.slots slot ≡ Some g → WasThere slot s a.state g
was_there a b slot s o maps t l g e = go (is_own slot s) refl
  where
    as_own : (s : Step) → transition_as a s o b maps → is_own slot s ≡ true → transition_as a (step.Step slot) o b maps
    as_own (step.Step i) t h = subst (λ n. transition_as a (step.Step n) o b maps) (eqb-true i slot h) t
    as_own (step.Begin tree call) t h = true_false (sym h)
    as_own (step.Abandon i) t h = true_false (sym h)
    as_own (step.Whole w) t h = true_false (sym h)

    other : is_own slot s ≡ false → (b.state.slots slot ≡ a.state.slots slot) ⊎ (b.state.slots slot ≡ None) → WasThere slot s a.state g
    other h (inl same) = record { flying = g; here = sym same ∙ e; same = (refl, refl); free = λ k. true_false (sym k ∙ h) }
    other h (inr none) = none_some (sym none ∙ e)

    go : (c : Bool) → is_own slot s ≡ c → WasThere slot s a.state g
    go true h = let w = went_on a b slot o maps (as_own s t h) g e in record { flying = w.flying; here = w.here; same = w.same; free = λ k. w.free }
    go false h = other h ((leaves slot a s o b maps t).slots l h)

-- ---- a scan that is under way

module _ {moments : List Maps} {notes : List ScanNote} {slot from to : ℕ} {tree : Tree} {lo hi : Bound Key} {back : Bool} (a : Configuration)
    (w : IsUnderWay moments notes slot from to tree lo hi back a.state.slots a.state.slots_given) (ascend : Ascend a.state) where
  abbrev bounds : Range
  bounds = record { lo = lo; hi = hi; back = back }

  -- the run up to the calls in flight now, whatever changed beside them
  pub here_now : ChangesBeside w.now a
  here_now = record { slots = sym w.slots_are; slots_given = sym w.given_are; ascend = ascend }

  abbrev run : RunsBeside w.begun w.steps w.outcomes a
  run = more_change w.run here_now

  pub scanned : IsScanned slot tree bounds run
  scanned = scan_law w.before w.begun a tree lo hi back slot w.none w.steps w.outcomes w.ascend w.begins run

  moments_of : IsOfMoment moments from to a.state → Throughout (IsOfMoment moments from to) run
  moments_of at = throughout_change (IsOfMoment moments from to) w.run here_now w.moments_are at

  -- what a pair of the run is at a moment
  pair_at : (e : Pair) (s : State) → HasPair tree e s → IsOfMoment moments from to s → AtOneMoment moments from to (IsPairOf tree e)
  pair_at e s p m = record {
    at = m.at;
    behind = m.behind;
    before = m.before;
    maps = m.maps;
    there = m.there;
    so = record { map = p.named.map; there = ap (λ (z : Maps). z tree.name) (sym m.so) ∙ ap (λ o. option_map (λ (t : NamedTree). t.map) o) p.there; pair = p.pair };
  }

  -- the pair that it gives now
  pub gives_seen : IsOfMoment moments from to a.state → (key value : Key) (b : Configuration) (maps : List Maps) → Transition a (step.Step slot) (outcome.Yielded key value) b maps → AtOneMoment moments from to (IsPairOf tree (key, value))
  gives_seen at key value b maps t = let x = both_at (HasPair tree (key, value)) (IsOfMoment moments from to) run (scanned.seen key value b maps t) (moments_of at) in pair_at (key, value) x.0 x.1 x.2

  key_at : (key : Key) → AtEachMoment moments from to (IsKeyOf tree key) → (s : State) → IsNumbered tree s → IsOfMoment moments from to s → HasKey tree key s
  key_at key each s n m =
      let k = each m.at m.maps m.behind m.before m.there in
      let same : Some n.named.map ≡ Some (k.1.map) = sym (ap (λ o. option_map (λ (t : NamedTree). t.map) o) n.there) ∙ ap (λ (z : Maps). z tree.name) m.so ∙ k.1.there in
      (k.0, record { named = n.named; there = n.there; same = n.same; pair = subst (λ l. In (key, k.0) l) (sym (some_is same)) k.1.pair })

  -- where it ends now it gave each key that was there at each moment
  pub ends_complete : IsOfMoment moments from to a.state → (reply : Reply) (b : Configuration) (maps : List Maps) → Transition a (step.Step slot) (outcome.Decided reply) b maps
      → (key : Key) → is_in_range bounds key ≡ true → AtEachMoment moments from to (IsKeyOf tree key) → (value : Key) × In (key, value) (gave_in slot notes)
  ends_complete at reply b maps t key inside each =
      let x = scanned.complete reply b maps t key inside (own_of slot (IsNumbered tree) (IsOfMoment moments from to) (HasKey tree key) (key_at key each) run (own_change slot (IsNumbered tree) w.run here_now w.numbered) (moments_of at)) in
      (x.0, subst (λ l. In (key, x.0) l) w.gives x.1)

  -- a step more
  module _ (b : Configuration) (s : Step) (o : Outcome) (maps : List Maps) (t : Transition a s o b maps) where
    pub stepped : IsScanned slot tree bounds (more_step run t)
    stepped = scan_law w.before w.begun b tree lo hi back slot w.none (w.steps ++ s ∷ []) (w.outcomes ++ o ∷ []) w.ascend w.begins (more_step run t)

    pub yields_now : yielded slot (w.steps ++ s ∷ []) (w.outcomes ++ o ∷ []) ≡ gave_in slot notes ++ cond (is_own slot s) (given_by o) []
    yields_now = yields_more slot w.run s o ∙ ap (λ x. x ++ cond (is_own slot s) (given_by o) []) w.gives

    pub under_way_step : {after : List Maps} {later : ℕ} → GoesOn moments after → to ≤ later → (noted : List ScanNote) → gave_in slot noted ≡ gave_in slot notes ++ cond (is_own slot s) (given_by o) [] → IsOfMoment moments from to a.state → IsOfMoment after from later b.state
        → ((g : CallInFlight) → b.state.slots slot ≡ Some g → WasThere slot s a.state g) → (g : CallInFlight) → b.state.slots slot ≡ Some g
        → IsUnderWay after noted slot from later tree lo hi back b.state.slots b.state.slots_given
    under_way_step {after = after} {later = later} goes l noted same at at_b was g e = record {
      before = w.before;
      begun = w.begun;
      now = b;
      none = w.none;
      steps = w.steps ++ s ∷ [];
      outcomes = w.outcomes ++ o ∷ [];
      ascend = w.ascend;
      begins = w.begins;
      run = more_step run t;
      gives = yields_now ∙ sym same;
      slots_are = refl;
      given_are = refl;
      its = λ f k. let x = was f k in let y = w.its x.flying x.here in (x.same.0 ∙ y.0, x.same.1 ∙ y.1);
      moments_are = throughout_step (IsOfMoment after from later) run t (throughout_as (IsOfMoment moments from to) (IsOfMoment after from later) (λ z h. still_at goes l h) run (moments_of at)) at_b;
      numbered = own_step slot (IsNumbered tree) run t (own_change slot (IsNumbered tree) w.run here_now w.numbered) (λ own. let x = was g e in subst (λ (z : Tree). IsNumbered z a.state) (w.its x.flying x.here).0 (numbered_of a.state x.flying (x.free own)));
    }

  -- .. or a change beside
  pub under_way_change : {after : List Maps} {later : ℕ} (b : Configuration) → GoesOn moments after → to ≤ later → b.state.slots ≡ a.state.slots → b.state.slots_given ≡ a.state.slots_given → Ascend b.state → IsOfMoment moments from to a.state → IsOfMoment after from later b.state
      → IsUnderWay after notes slot from later tree lo hi back b.state.slots b.state.slots_given
  under_way_change {after = after} {later = later} b goes l same given asc at at_b =
      let change : ChangesBeside a b = record { slots = same; slots_given = given; ascend = asc } in
      record {
        before = w.before;
        begun = w.begun;
        now = b;
        none = w.none;
        steps = w.steps;
        outcomes = w.outcomes;
        ascend = w.ascend;
        begins = w.begins;
        run = more_change run change;
        gives = w.gives;
        slots_are = refl;
        given_are = refl;
        its = λ f k. w.its f (sym (ap (λ z. z slot) same) ∙ k);
        moments_are = throughout_change (IsOfMoment after from later) run change (throughout_as (IsOfMoment moments from to) (IsOfMoment after from later) (λ z h. still_at goes l h) run (moments_of at)) at_b;
        numbered = own_change slot (IsNumbered tree) run change (own_change slot (IsNumbered tree) w.run here_now w.numbered);
      }
