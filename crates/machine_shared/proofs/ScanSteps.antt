-- What is known of scans, at every step of the model.
use Rattle.std.proofs.Common.{◌≡◌, ◌≢◌, ◌≤◌, ◌+◌, ◌∙◌, ◌⊎◌, inl, inr, ℕ, nat_eq, Bool, true, false, cond, List, [], ◌∷◌, ◌++◌, append-nil, Option, Some, None, sym, refl, ap, subst, le_trans, le_of_eq, arith}
use Rattle.std.proofs.lemmas.Bool.{eqb-true, eq-eqb}
use Rattle.std.specs.declared.ops.Bound.{Bound}
use Rattle.sled_nodes.proofs.Basics.{none_some, some_is, true_false}
use Rattle.sled_nodes.specs.Order.{Key}
use Rattle.sled_store.specs.In.{In}
use Rattle.sled_store.specs.theory.Facts.{put_here}
use Rattle.sled_model.specs.Maps.{Maps}
use Rattle.sled_model.specs.State.{State, CallInFlight, IsOnKey, range_of}
use Rattle.sled_model.specs.Transition.{Configuration, Transition}
use Rattle.sled_model.specs.declared.call.Call.{Call}
use Rattle.sled_model.specs.declared.call.Call.TheVariants.{Scan}
use Rattle.sled_model.specs.declared.tree.Tree.{Tree}
use Rattle.sled_model.specs.declared.reply.Reply.TheVariants as told
use Rattle.sled_model.specs.declared.outcome.Step.{Step}
use Rattle.sled_model.specs.declared.outcome.Step.TheVariants as step
use Rattle.sled_model.specs.declared.outcome.Outcome.{Outcome}
use Rattle.sled_model.specs.declared.outcome.Outcome.TheVariants as outcome
use Rattle.sled_model.proofs.Shapes.{call_begun}
use Rattle.scan_laws.specs.Scanned.{Ascend, NoSteps, InOrder, given_by, is_own}
use Rattle.scan_laws.proofs.Lists.{in_right}
use Rattle.sled_queues.proofs.Closing.{opens_none}
use Rattle.scan_laws.proofs.Staying.{leaves}
use Rattle.machine_shared.specs.Moments.{AtOneMoment}
use Rattle.machine_shared.specs.Scanned.{pair_of, gave_in, IsPairOf, AreOfScans, AreScanned}
use Rattle.machine_shared.specs.Scans.{ScansValue, NotesScan, AreNoted, AreNotKept, Stops, begun_of, noted_at, scanned_of}
use Rattle.machine_shared.specs.declared.scans.Scanned.{Scanned}
use Rattle.machine_shared.specs.declared.scans.Scanned.TheVariants as did
use Rattle.machine_shared.specs.declared.scans.ScanNote.{ScanNote}
use Rattle.machine_shared.specs.UnderWay.{AreGoing, IsOfMoment, IsUnderWay, ScansAre}
use Rattle.machine_shared.proofs.Gave.{are_later, are_more, gave_none, gave_nothing, gave_on, gave_one, gives_none, note_either}
use Rattle.machine_shared.proofs.Going.{begin_noted, begun_last, going_after, of_one_more, of_step}
use Rattle.machine_shared.proofs.Moments.{GoesOn}
use Rattle.machine_shared.proofs.UnderWay.{WasThere, was_there, opens_of, ends_complete, gives_seen, stepped, yields_now, under_way_step, under_way_change}

abbrev SeenAll : List Maps → ℕ → ℕ → Tree → List (Key × Key) → Type 0
SeenAll moments from to tree [] = Unit {0}
SeenAll moments from to tree (p ∷ ps) = AtOneMoment moments from to (IsPairOf tree p)

gave_no_end : {Q : Type 0} {key value : Key} → did.Gave key value ≡ did.Ended → Q
gave_no_end e = cc

end_no_pair : {Q : Type 0} {key value : Key} → did.Ended ≡ did.Gave key value → Q
end_no_pair e = cc

gave_no_begin : {Q : Type 0} {key value : Key} {tree : Tree} {call : Call} → did.Gave key value ≡ did.Begun tree call → Q
gave_no_begin e = cc

end_no_begin : {Q : Type 0} {tree : Tree} {call : Call} → did.Ended ≡ did.Begun tree call → Q
end_no_begin e = cc

no_note : {Q : Type 0} {x : Scanned} → x ∷ [] ≡ [] → Q
no_note e = cc

abbrev no_pairs : List (Key × Key)
no_pairs = []

no_pair : (b : Bool) → cond b no_pairs no_pairs ≡ no_pairs
no_pair true = refl
no_pair false = refl

abbrev IfBegun : (Tree → Bound Key → Bound Key → Bool → Type 0) → Scanned → Type 0
IfBegun is (did.Begun tree (Scan lo hi back)) = is tree lo hi back
IfBegun is other = Unit {0}

-- what is so of a scan that begins is so of one that begins so
begun_as : (tree : Tree) (lo hi : Bound Key) (back : Bool) (tree2 : Tree) (lo2 hi2 : Bound Key) (back2 : Bool) (is : Tree → Bound Key → Bound Key → Bool → Type 0) → did.Begun tree (Scan lo hi back) ≡ did.Begun tree2 (Scan lo2 hi2 back2)
    → is tree lo hi back → is tree2 lo2 hi2 back2
begun_as tree lo hi back tree2 lo2 hi2 back2 is e h = subst (λ (x : Scanned). IfBegun is x) e h

-- the pairs of a slot, with what a step of some slot notes
gave_step : (slot i n : ℕ) (o : Outcome) (notes : List ScanNote) → gave_in slot (notes ++ noted_at i n (scanned_of o)) ≡ gave_in slot notes ++ cond (nat_eq i slot) (given_by o) []
gave_step slot i n o notes = go o
  where
    nothing : gave_in slot (notes ++ []) ≡ gave_in slot notes ++ cond (nat_eq i slot) no_pairs no_pairs
    nothing = ap (gave_in slot) (append-nil notes) ∙ sym (append-nil (gave_in slot notes)) ∙ ap (λ l. gave_in slot notes ++ l) (sym (no_pair (nat_eq i slot)))

    go : (o : Outcome) → gave_in slot (notes ++ noted_at i n (scanned_of o)) ≡ gave_in slot notes ++ cond (nat_eq i slot) (given_by o) []
    go (outcome.Yielded key value) = gave_one slot notes (record { slot = i; at = n; did = did.Gave key value })
    go (outcome.Decided told.End) = gave_one slot notes (record { slot = i; at = n; did = did.Ended })
    go (outcome.Decided reply) = nothing
    go other = nothing

-- what is so of a database from one moment on, while it is open
abbrev pub AtLast : Configuration → List Maps → ℕ → Type 0
AtLast A moments to = A.state.is_open ≡ true → (from : ℕ) → from ≤ to → IsOfMoment moments from to A.state

abbrev pub KnownOf : Configuration → List Maps → ℕ → ScansValue → Type 0
KnownOf A = ScansAre A.state.is_open A.state.slots A.state.slots_given

module _ (A B : Configuration) (moments after : List Maps) (to later : ℕ) (goes : GoesOn moments after) (more : to ≤ later) (at_a : AtLast A moments to) (at_b : AtLast B after later)
    (scans : ScansValue) (h : KnownOf A moments to scans) (ascend : Ascend A.state) where
  bounded_later : A.state.slots_given ≤ B.state.slots_given → (n : ScanNote) → In n scans.notes → (n.slot ≤ B.state.slots_given) × (n.at ≤ later)
  bounded_later given n i = let x = h.bounded n i in (le_trans x.0 given, le_trans x.1 more)

  -- where no note is kept from here on
  unkept : A.state.slots_given ≤ B.state.slots_given → (new : ScansValue) → new.keeps ≡ false → new.notes ≡ scans.notes → KnownOf B after later new
  unkept given new none same = record {
    gave = subst (λ ns. AreScanned after ns) (sym same) (are_later goes h.gave);
    of_scans = subst (λ ns. AreOfScans [] ns) (sym same) h.of_scans;
    going = λ k. true_false (sym k ∙ none);
    bounded = λ n i. bounded_later given n (subst (λ ns. In n ns) same i);
    under_way = λ k. true_false (sym k ∙ none);
  }

  -- where the calls in flight stay, and nothing is noted
  pub scans_beside : B.state.slots ≡ A.state.slots → B.state.slots_given ≡ A.state.slots_given → Ascend B.state → (B.state.is_open ≡ true → A.state.is_open ≡ true) → KnownOf B after later scans
  scans_beside same given asc opens = record {
    gave = are_later goes h.gave;
    of_scans = h.of_scans;
    going = λ k slot f e. h.going k slot f (sym (ap (λ (z : ℕ → Option CallInFlight). z slot) same) ∙ e);
    bounded = bounded_later (le_of_eq (sym given));
    under_way = λ k o n tree lo hi back i d f e.
        let from = (h.bounded n i).1 in
        under_way_change A (h.under_way k (opens o) n tree lo hi back i d f (sym (ap (λ (z : ℕ → Option CallInFlight). z n.slot) same) ∙ e)) ascend B goes more same given asc
        (at_a (opens o) n.at from) (at_b o n.at (le_trans from more));
  }

  module _ (s : Step) (o : Outcome) (maps : List Maps) (t : Transition A s o B maps) where
    given_rises : A.state.slots_given ≤ B.state.slots_given
    given_rises = (leaves 0 A s o B maps t.is).given

    opened : B.state.is_open ≡ true → A.state.is_open ≡ true
    opened e = opens_none A s o B maps t.is e

    there : (n : ScanNote) → In n scans.notes → (g : CallInFlight) → B.state.slots n.slot ≡ Some g → WasThere n.slot s A.state g
    there n i g e = was_there A B n.slot s o maps t.is (h.bounded n i).0 g e

    -- a scan that was under way goes on
    goes_on : scans.keeps ≡ true → B.state.is_open ≡ true → (noted : List ScanNote) (n : ScanNote) (tree : Tree) (lo hi : Bound Key) (back : Bool) → In n scans.notes → n.did ≡ did.Begun tree (Scan lo hi back)
        → gave_in n.slot noted ≡ gave_in n.slot scans.notes ++ cond (is_own n.slot s) (given_by o) [] → (f : CallInFlight) → B.state.slots n.slot ≡ Some f
        → IsUnderWay after noted n.slot n.at later tree lo hi back (B.state.slots) B.state.slots_given
    goes_on k e noted n tree lo hi back i d same f here =
        let was = there n i f here in
        let from = (h.bounded n i).1 in
        under_way_step A (h.under_way k (opened e) n tree lo hi back i d was.flying was.here) ascend B s o maps t goes more noted same
        (at_a (opened e) n.at from) (at_b e n.at (le_trans from more)) (there n i) f here

    -- a step that is no slot's own
    pub scans_quiet : ((slot : ℕ) → is_own slot s ≡ false) → begin_noted s o (scans.notes ++ []) → KnownOf B after later scans
    scans_quiet none noted = record {
      gave = are_later goes h.gave;
      of_scans = h.of_scans;
      going = λ k. subst (λ ns. AreGoing B.state.slots ns) (append-nil scans.notes) (going_after A B s o maps t.is scans.notes [] (h.going k) noted);
      bounded = bounded_later given_rises;
      under_way = λ k e n tree lo hi back i d f here. goes_on k e scans.notes n tree lo hi back i d (sym (ap (λ x. gave_in n.slot scans.notes ++ cond x (given_by o) []) (none n.slot) ∙ append-nil (gave_in n.slot scans.notes))) f here;
    }

  -- ---- a step of a slot

  module _ (i : ℕ) (o : Outcome) (maps : List Maps) (t : Transition A (step.Step i) o B maps) where
    -- the scan in the slot, if one was noted there
    abbrev Flying : Type 0
    Flying = (n : ScanNote) (tree : Tree) (lo hi : Bound Key) (back : Bool) → In n scans.notes → n.did ≡ did.Begun tree (Scan lo hi back) → i ≡ n.slot
        → IsUnderWay moments scans.notes n.slot n.at to tree lo hi back A.state.slots A.state.slots_given

    flying : scans.keeps ≡ true → A.state.is_open ≡ true → (f : CallInFlight) → A.state.slots i ≡ Some f → Flying
    flying k e f here n tree lo hi back there d same = h.under_way k e n tree lo hi back there d f (ap A.state.slots (sym same) ∙ here)

    abbrev note : Scanned → ScanNote
    note d = record { slot = i; at = to; did = d }

    own : (slot : ℕ) → i ≡ slot → nat_eq i slot ≡ true
    own slot e = eq-eqb i slot e

    gave_now : scans.keeps ≡ true → AreScanned moments (scans.notes ++ noted_at i to (scanned_of o))
    gave_now k = go o t
      where
        nothing : AreScanned moments (scans.notes ++ [])
        nothing = subst (λ ns. AreScanned moments ns) (sym (append-nil scans.notes)) h.gave

        go : (o : Outcome) → Transition A (step.Step i) o B maps → AreScanned moments (scans.notes ++ noted_at i to (scanned_of o))
        go (outcome.Yielded key value) u = are_more h.gave (note (did.Gave key value))
            (λ n tree lo hi back there d same.
            let opens = opens_of A.state u.is.0.flying u.is.0.free in
            let w = flying k opens u.is.0.flying u.is.0.here n tree lo hi back there d same in
            let scanned = stepped A w ascend B (step.Step i) (outcome.Yielded key value) maps u in
            let gives = yields_now A w ascend B (step.Step i) (outcome.Yielded key value) maps u ∙ ap (λ x. gave_in n.slot scans.notes ++ cond x ((key, value) ∷ []) []) (own n.slot same) in
            record {
              ordered = subst (λ ps. InOrder back ps) gives scanned.ordered;
              within = λ e inside. scanned.within e (subst (λ ps. In e ps) (sym gives) (in_right e (gave_in n.slot scans.notes) ((key, value) ∷ []) inside));
              seen = λ k2 v2 e. subst (λ (x : Scanned). SeenAll moments n.at to tree (pair_of x)) e
                  (gives_seen A w ascend (at_a opens n.at (h.bounded n there).1) key value B maps (subst (λ z. Transition A (step.Step z) (outcome.Yielded key value) B maps) same u));
              complete = λ e. gave_no_end e;
            })
            (λ tree lo hi back e. gave_no_begin e)
        go (outcome.Decided told.End) u = are_more h.gave (note did.Ended)
            (λ n tree lo hi back there d same.
            let opens = opens_of A.state u.is.0.flying u.is.0.free in
            let w = flying k opens u.is.0.flying u.is.0.here n tree lo hi back there d same in
            let old = h.gave n tree lo hi back there d in
            record {
              ordered = subst (λ ps. InOrder back ps) (sym (append-nil (gave_in n.slot scans.notes))) old.ordered;
              within = λ e inside. absurd inside;
              seen = λ k2 v2 e. end_no_pair e;
              complete = λ e. ends_complete A w ascend (at_a opens n.at (h.bounded n there).1) told.End B maps (subst (λ z. Transition A (step.Step z) (outcome.Decided told.End) B maps) same u);
            })
            (λ tree lo hi back e. end_no_begin e)
        go (outcome.Decided reply) u = nothing
        go other u = nothing

    -- no step of a slot begins a scan
    old_begun : (n : ScanNote) (tree : Tree) (lo hi : Bound Key) (back : Bool) → In n (scans.notes ++ noted_at i to (scanned_of o)) → n.did ≡ did.Begun tree (Scan lo hi back) → In n scans.notes
    old_begun n tree lo hi back x d = go o x
      where
        go : (o : Outcome) → In n (scans.notes ++ noted_at i to (scanned_of o)) → In n scans.notes
        go (outcome.Yielded key value) x = elim (note_either n scans.notes (note (did.Gave key value)) x) [ inl old ↦ old | inr same ↦ gave_no_begin (sym (ap (λ (m : ScanNote). m.did) same) ∙ d) ]
        go (outcome.Decided told.End) x = elim (note_either n scans.notes (note did.Ended) x) [ inl old ↦ old | inr same ↦ end_no_begin (sym (ap (λ (m : ScanNote). m.did) same) ∙ d) ]
        go (outcome.Decided reply) x = subst (λ ns. In n ns) (append-nil scans.notes) x
        go other x = subst (λ ns. In n ns) (append-nil scans.notes) x

    bounded_step : (n : ScanNote) → In n (scans.notes ++ noted_at i to (scanned_of o)) → i ≤ B.state.slots_given ⊎ (scanned_of o ≡ []) → (n.slot ≤ B.state.slots_given) × (n.at ≤ later)
    bounded_step n x fits = go o x fits
      where
        one : (d : Scanned) → In n (scans.notes ++ note d ∷ []) → i ≤ B.state.slots_given → (n.slot ≤ B.state.slots_given) × (n.at ≤ later)
        one d x fits = elim (note_either n scans.notes (note d) x) [
          | inl old ↦ bounded_later (given_rises (step.Step i) o maps t) n old
          | inr same ↦ subst (λ (m : ScanNote). (m.slot ≤ B.state.slots_given) × (m.at ≤ later)) (sym same) (fits, more)
        ]

        none : In n (scans.notes ++ []) → (n.slot ≤ B.state.slots_given) × (n.at ≤ later)
        none x = bounded_later (given_rises (step.Step i) o maps t) n (subst (λ ns. In n ns) (append-nil scans.notes) x)

        go : (o : Outcome) → In n (scans.notes ++ noted_at i to (scanned_of o)) → i ≤ B.state.slots_given ⊎ (scanned_of o ≡ []) → (n.slot ≤ B.state.slots_given) × (n.at ≤ later)
        go (outcome.Yielded key value) x (inl fits) = one (did.Gave key value) x fits
        go (outcome.Yielded key value) x (inr e) = no_note e
        go (outcome.Decided told.End) x (inl fits) = one did.Ended x fits
        go (outcome.Decided told.End) x (inr e) = no_note e
        go (outcome.Decided reply) x fits = none x
        go other x fits = none x

    -- the slot of a call is one that was given
    fits : ((slot : ℕ) (f : CallInFlight) → A.state.slots slot ≡ Some f → slot ≤ A.state.slots_given) → i ≤ B.state.slots_given ⊎ (scanned_of o ≡ [])
    fits given = go o t
      where
        go : (o : Outcome) → Transition A (step.Step i) o B maps → i ≤ B.state.slots_given ⊎ (scanned_of o ≡ [])
        go (outcome.Yielded key value) u = inl (le_trans (given i u.is.0.flying u.is.0.here) (given_rises (step.Step i) o maps t))
        go (outcome.Decided told.End) u = inl (le_trans (given i u.is.0.flying u.is.0.here) (given_rises (step.Step i) o maps t))
        go (outcome.Decided reply) u = inr refl
        go other u = inr refl

    pub scans_step : ((slot : ℕ) (f : CallInFlight) → A.state.slots slot ≡ Some f → slot ≤ A.state.slots_given) → (new : ScansValue) → NotesScan scans (noted_at i to (scanned_of o)) new → KnownOf B after later new
    scans_step given new (AreNotKept k e) = unkept (given_rises (step.Step i) o maps t) new (ap (λ (z : ScansValue). z.keeps) e ∙ k) (ap (λ (z : ScansValue). z.notes) e)
    scans_step given new (Stops k some e) = unkept (given_rises (step.Step i) o maps t) new (ap (λ (z : ScansValue). z.keeps) e) (ap (λ (z : ScansValue). z.notes) e)
    scans_step given new (AreNoted k e) = subst (λ (z : ScansValue). KnownOf B after later z) (sym e) (record {
      gave = are_later goes (gave_now k);
      of_scans = of_step A B i to o maps t.is scans.notes (h.going k) h.of_scans;
      going = λ kept. going_after A B (step.Step i) o maps t.is scans.notes (noted_at i to (scanned_of o)) (h.going k) tt;
      bounded = λ n x. bounded_step n x (fits given);
      under_way = λ kept is_open n tree lo hi back x d f here.
          goes_on (step.Step i) o maps t k is_open (scans.notes ++ noted_at i to (scanned_of o)) n tree lo hi back (old_begun n tree lo hi back x d) d (gave_step n.slot i to o scans.notes) f here;
    })

    -- a step of a call on a key
    pub scans_key : (f : CallInFlight) → A.state.slots i ≡ Some f → range_of f.call ≡ None → KnownOf B after later scans
    scans_key f there key = record {
      gave = are_later goes h.gave;
      of_scans = h.of_scans;
      going = λ k. subst (λ ns. AreGoing B.state.slots ns) (append-nil scans.notes) (going_after A B (step.Step i) o maps t.is scans.notes [] (h.going k) tt);
      bounded = bounded_later (given_rises (step.Step i) o maps t);
      under_way = λ k e n tree lo hi back x d g here. goes_on (step.Step i) o maps t k e scans.notes n tree lo hi back x d (quiet k (opened (step.Step i) o maps t e) n tree lo hi back x d (nat_eq i n.slot) refl) g here;
    }
      where
        quiet : scans.keeps ≡ true → A.state.is_open ≡ true → (n : ScanNote) (tree : Tree) (lo hi : Bound Key) (back : Bool) → In n scans.notes → n.did ≡ did.Begun tree (Scan lo hi back) → (x : Bool) → nat_eq i n.slot ≡ x
            → gave_in n.slot scans.notes ≡ gave_in n.slot scans.notes ++ cond (nat_eq i n.slot) (given_by o) []
        quiet k e n tree lo hi back x d true same =
            let w = flying k e f there n tree lo hi back x d (eqb-true i n.slot same) in
            none_some (sym key ∙ ap range_of (w.its f (ap A.state.slots (sym (eqb-true i n.slot same)) ∙ there)).1)
        quiet k e n tree lo hi back x d false same = sym (ap (λ z. gave_in n.slot scans.notes ++ cond z (given_by o) []) same ∙ append-nil (gave_in n.slot scans.notes))

  -- ---- a begin

  module _ (tree : Tree) (call : Call) (slot : ℕ) (maps : List Maps) (t : Transition A (step.Begin tree call) (outcome.Begun slot) B maps) where
    abbrev begin_note : Bound Key → Bound Key → Bool → ScanNote
    begin_note lo hi back = record { slot = slot; at = to; did = did.Begun tree (Scan lo hi back) }

    -- no note is of the new slot
    apart : (n : ScanNote) → In n scans.notes → n.slot ≢ slot
    apart n i e = behind n.slot slot A.state.slots_given (h.bounded n i).0 t.is.0.next e
      where
        behind : (n m g : ℕ) → n ≤ g → m ≡ g + 1 → n ≡ m → ⊥
        behind n m g x f e = absurd (omega (arith, x, f, e))

    -- a scan that begins
    module _ (lo hi : Bound Key) (back : Bool) (is : call ≡ Scan lo hi back) where
      gave_begun : AreScanned moments (scans.notes ++ begin_note lo hi back ∷ [])
      gave_begun = are_more h.gave (begin_note lo hi back)
          (λ n tree2 lo2 hi2 back2 there d same. absurd (apart n there (sym same)))
          (λ tree2 lo2 hi2 back2 d. gave_on (gave_nothing moments scans.notes slot to tree2 (record { lo = lo2; hi = hi2; back = back2 }) apart) (begin_note lo hi back)
          (λ e. gives_none (gave_nothing moments scans.notes slot to tree2 (record { lo = lo2; hi = hi2; back = back2 }) apart) (begin_note lo hi back) refl (λ key value x. gave_no_begin (sym x)) (λ x. end_no_begin (sym x))))

      none_now : gave_in slot (scans.notes ++ begin_note lo hi back ∷ []) ≡ []
      none_now = gave_one slot scans.notes (begin_note lo hi back) ∙ ap (λ ps. ps ++ cond (nat_eq slot slot) no_pairs no_pairs) (gave_none slot scans.notes apart) ∙ no_pair (nat_eq slot slot)

      same_pairs : (other : ℕ) → gave_in other (scans.notes ++ begin_note lo hi back ∷ []) ≡ gave_in other scans.notes ++ []
      same_pairs other = gave_one other scans.notes (begin_note lo hi back) ∙ ap (λ ps. gave_in other scans.notes ++ ps) (no_pair (nat_eq slot other))

      first : B.state.is_open ≡ true → IsUnderWay after (scans.notes ++ begin_note lo hi back ∷ []) slot to later tree lo hi back (B.state.slots) B.state.slots_given
      first e = record {
        before = A;
        begun = B;
        now = B;
        none = maps;
        steps = [];
        outcomes = [];
        ascend = ascend;
        begins = subst (λ z. Transition A (step.Begin tree z) (outcome.Begun slot) B maps) is t;
        run = NoSteps;
        gives = sym none_now;
        slots_are = refl;
        given_are = refl;
        its = λ f here.
            let same = some_is (sym here ∙ ap (λ (z : State). z.slots slot) t.is.0.is ∙ put_here A.state.slots slot _) in
            (ap (λ (z : CallInFlight). z.tree) same, ap (λ (z : CallInFlight). z.call) same ∙ is);
        moments_are = at_b e to more;
        numbered = tt;
      }

      scans_begun : scans.keeps ≡ true → KnownOf B after later (record { keeps = true; notes = scans.notes ++ begin_note lo hi back ∷ [] })
      scans_begun k = record {
        gave = are_later goes gave_begun;
        of_scans = of_one_more [] scans.notes (begin_note lo hi back) h.of_scans (record { lo = lo; hi = hi; back = back }, refl);
        going = λ kept. going_after A B (step.Begin tree call) (outcome.Begun slot) maps t.is scans.notes (begin_note lo hi back ∷ []) (h.going k) (inr (begun_last scans.notes slot (begin_note lo hi back) (call_begun tree call) refl (ap (λ c. did.Begun tree c) (sym is))));
        bounded = λ n i. elim (note_either n scans.notes (begin_note lo hi back) i) [
          | inl old ↦ bounded_later (given_rises (step.Begin tree call) (outcome.Begun slot) maps t) n old
          | inr same ↦ subst (λ (m : ScanNote). (m.slot ≤ B.state.slots_given) × (m.at ≤ later)) (sym same) (le_of_eq (sym (ap (λ (z : State). z.slots_given) t.is.0.is)), more)
        ];
        under_way = λ kept e n tree2 lo2 hi2 back2 i d f here. elim (note_either n scans.notes (begin_note lo hi back) i) [
          | inl old ↦ goes_on (step.Begin tree call) (outcome.Begun slot) maps t k e (scans.notes ++ begin_note lo hi back ∷ []) n tree2 lo2 hi2 back2 old d (same_pairs n.slot) f here
          | inr same ↦ subst (λ (m : ScanNote). IsUnderWay after (scans.notes ++ begin_note lo hi back ∷ []) m.slot m.at later tree2 lo2 hi2 back2 (B.state.slots) B.state.slots_given) (sym same)
              (begun_as tree lo hi back tree2 lo2 hi2 back2 (λ x y z w. IsUnderWay after (scans.notes ++ begin_note lo hi back ∷ []) slot to later x y z w (B.state.slots) B.state.slots_given)
              (sym (ap (λ (m : ScanNote). m.did) same) ∙ d) (first e))
        ];
      }

    pub scans_begin : (new : ScansValue) → NotesScan scans (noted_at slot to (begun_of tree call)) new → KnownOf B after later new
    scans_begin new (AreNotKept k e) = unkept (given_rises (step.Begin tree call) (outcome.Begun slot) maps t) new (ap (λ (z : ScansValue). z.keeps) e ∙ k) (ap (λ (z : ScansValue). z.notes) e)
    scans_begin new (Stops k some e) = unkept (given_rises (step.Begin tree call) (outcome.Begun slot) maps t) new (ap (λ (z : ScansValue). z.keeps) e) (ap (λ (z : ScansValue). z.notes) e)
    scans_begin new (AreNoted k e) = subst (λ (z : ScansValue). KnownOf B after later z) (sym e) (go call refl)
      where
        nothing : IsOnKey call → KnownOf B after later (record { keeps = true; notes = scans.notes ++ [] })
        nothing key = subst (λ (z : ScansValue). KnownOf B after later z) (ap (λ x. record { keeps = x; notes = scans.notes }) k ∙ ap (λ ns. record { keeps = true; notes = ns }) (sym (append-nil scans.notes)))
            (scans_quiet (step.Begin tree call) (outcome.Begun slot) maps t (λ s. refl) (inl key))

        go : (z : Call) → call ≡ z → KnownOf B after later (record { keeps = true; notes = scans.notes ++ noted_at slot to (begun_of tree z) })
        go (Scan lo hi back) is = scans_begun lo hi back is k
        go other is = nothing (ap range_of is)
