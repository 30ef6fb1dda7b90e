-- What scans gave, as more is noted and a history grows.
use Rattle.std.proofs.Common.{◌≡◌, ◌≢◌, ◌∙◌, ◌⊎◌, inl, inr, ℕ, nat_eq, Bool, true, false, cond, List, [], ◌∷◌, ◌++◌, append_assoc, append-nil, sym, refl, ap, subst, le_of_eq}
use Rattle.std.proofs.lemmas.Bool.{eqb-true, eq-eqb}
use Rattle.std.specs.declared.ops.Bound.{Bound}
use Rattle.sled_nodes.proofs.Basics.{true_false}
use Rattle.sled_nodes.specs.Order.{Key}
use Rattle.sled_nodes.specs.Ranges.{Range, is_in_range}
use Rattle.sled_store.specs.In.{In}
use Rattle.sled_model.specs.Maps.{Maps}
use Rattle.sled_model.specs.declared.call.Call.TheVariants.{Scan}
use Rattle.sled_model.specs.declared.tree.Tree.{Tree}
use Rattle.scan_laws.specs.Scanned.{InOrder}
use Rattle.scan_laws.proofs.Lists.{in_left, in_either}
use Rattle.machine_shared.specs.Moments.{AtOneMoment, AtEachMoment}
use Rattle.machine_shared.specs.Scanned.{pair_of, gave_in, IsPairOf, IsKeyOf, GaveAllOf, AreScanned}
use Rattle.machine_shared.specs.declared.scans.Scanned.TheVariants as did
use Rattle.machine_shared.specs.declared.scans.ScanNote.{ScanNote}
use Rattle.machine_shared.proofs.Moments.{GoesOn, still_at}

abbrev Pair : Type 0
Pair = Key × Key

pub gave_more : (slot : ℕ) (ns ms : List ScanNote) → gave_in slot (ns ++ ms) ≡ gave_in slot ns ++ gave_in slot ms
gave_more slot [] ms = refl
gave_more slot (n ∷ ns) ms = ap (λ l. cond (nat_eq n.slot slot) (pair_of n.did) [] ++ l) (gave_more slot ns ms) ∙ sym (append_assoc (cond (nat_eq n.slot slot) (pair_of n.did) []) (gave_in slot ns) (gave_in slot ms))

-- the pairs with one note more
pub gave_one : (slot : ℕ) (ns : List ScanNote) (x : ScanNote) → gave_in slot (ns ++ x ∷ []) ≡ gave_in slot ns ++ cond (nat_eq x.slot slot) (pair_of x.did) []
gave_one slot ns x = gave_more slot ns (x ∷ []) ∙ ap (λ l. gave_in slot ns ++ l) (append-nil (cond (nat_eq x.slot slot) (pair_of x.did) []))

pub gave_none : (slot : ℕ) (ns : List ScanNote) → ((n : ScanNote) → In n ns → n.slot ≢ slot) → gave_in slot ns ≡ []
gave_none slot [] h = refl
gave_none slot (n ∷ ns) h = go (nat_eq n.slot slot) refl (gave_none slot ns (λ m i. h m (inr i)))
  where
    go : (b : Bool) → nat_eq n.slot slot ≡ b → gave_in slot ns ≡ [] → gave_in slot (n ∷ ns) ≡ []
    go true e rest = absurd (h n (inl refl) (eqb-true n.slot slot e))
    go false e rest = ap (λ b. cond b (pair_of n.did) [] ++ gave_in slot ns) e ∙ rest

pub note_left : (n : ScanNote) (ns ms : List ScanNote) → In n ns → In n (ns ++ ms)
note_left n [] ms h = absurd h
note_left n (x ∷ ns) ms (inl h) = inl h
note_left n (x ∷ ns) ms (inr h) = inr (note_left n ns ms h)

-- a note is one of before, or the one more
pub note_either : (n : ScanNote) (ns : List ScanNote) (x : ScanNote) → In n (ns ++ x ∷ []) → In n ns ⊎ (n ≡ x)
note_either n [] x (inl e) = inr e
note_either n [] x (inr h) = absurd h
note_either n (m ∷ ns) x (inl e) = inl (inl e)
note_either n (m ∷ ns) x (inr h) = elim (note_either n ns x h) [ inl l ↦ inl (inr l) | inr r ↦ inr r ]

-- what has to hold of a note of the scan's slot that comes
pub record GivesOn (moments : List Maps) (notes : List ScanNote) (slot from : ℕ) (tree : Tree) (bounds : Range) (x : ScanNote) : Type 0 where
  pub ordered : InOrder bounds.back (gave_in slot notes ++ pair_of x.did)
  pub within : (e : Pair) → In e (pair_of x.did) → is_in_range bounds e.0 ≡ true
  pub seen : (key value : Key) → x.did ≡ did.Gave key value → AtOneMoment moments from x.at (IsPairOf tree (key, value))
  pub complete : x.did ≡ did.Ended → (key : Key) → is_in_range bounds key ≡ true → AtEachMoment moments from x.at (IsKeyOf tree key) → (value : Key) × In (key, value) (gave_in slot notes)

pub gave_on : {moments : List Maps} {notes : List ScanNote} {slot from : ℕ} {tree : Tree} {bounds : Range} → GaveAllOf moments notes slot from tree bounds → (x : ScanNote) → (x.slot ≡ slot → GivesOn moments notes slot from tree bounds x)
    → GaveAllOf moments (notes ++ x ∷ []) slot from tree bounds
gave_on {moments = moments} {notes = notes} {slot = slot} {from = from} {tree = tree} {bounds = bounds} old x facts = go (nat_eq x.slot slot) refl
  where
    go : (b : Bool) → nat_eq x.slot slot ≡ b → GaveAllOf moments (notes ++ x ∷ []) slot from tree bounds
    go true h =
        let f = facts (eqb-true x.slot slot h) in
        let gave : gave_in slot (notes ++ x ∷ []) ≡ gave_in slot notes ++ pair_of x.did = gave_one slot notes x ∙ ap (λ b. gave_in slot notes ++ cond b (pair_of x.did) []) h in
        record {
          ordered = subst (λ l. InOrder bounds.back l) (sym gave) f.ordered;
          within = λ e i. elim (in_either e (gave_in slot notes) (pair_of x.did) (subst (λ l. In e l) gave i)) [ inl l ↦ old.within e l | inr r ↦ f.within e r ];
          seen = λ n key value i s d. elim (note_either n notes x i) [
            | inl l ↦ old.seen n key value l s d
            | inr same ↦ subst (λ (m : ScanNote). AtOneMoment moments from m.at (IsPairOf tree (key, value))) (sym same) (f.seen key value (sym (ap (λ (m : ScanNote). m.did) same) ∙ d))
          ];
          complete = λ n i s d key inside each. elim (note_either n notes x i) [
            | inl l ↦ let r = old.complete n l s d key inside each in (r.0, subst (λ l. In (key, r.0) l) (sym gave) (in_left (key, r.0) (gave_in slot notes) (pair_of x.did) r.1))
            | inr same ↦
                let r = f.complete (sym (ap (λ (m : ScanNote). m.did) same) ∙ d) key inside (subst (λ (m : ScanNote). AtEachMoment moments from m.at (IsKeyOf tree key)) same each) in
                (r.0, subst (λ l. In (key, r.0) l) (sym gave) (in_left (key, r.0) (gave_in slot notes) (pair_of x.did) r.1))
          ];
        }
    go false h =
        let gave : gave_in slot (notes ++ x ∷ []) ≡ gave_in slot notes = gave_one slot notes x ∙ ap (λ b. gave_in slot notes ++ cond b (pair_of x.did) []) h ∙ append-nil (gave_in slot notes) in
        record {
          ordered = subst (λ l. InOrder bounds.back l) (sym gave) old.ordered;
          within = λ e i. old.within e (subst (λ l. In e l) gave i);
          seen = λ n key value i s d. elim (note_either n notes x i) [
            | inl l ↦ old.seen n key value l s d
            | inr same ↦ true_false (sym (eq-eqb x.slot slot (sym (ap (λ (m : ScanNote). m.slot) same) ∙ s)) ∙ h)
          ];
          complete = λ n i s d key inside each. elim (note_either n notes x i) [
            | inl l ↦ let r = old.complete n l s d key inside each in (r.0, subst (λ l. In (key, r.0) l) (sym gave) r.1)
            | inr same ↦ true_false (sym (eq-eqb x.slot slot (sym (ap (λ (m : ScanNote). m.slot) same) ∙ s)) ∙ h)
          ];
        }

-- where nothing is noted of its slot, a scan gave nothing yet
pub gave_nothing : (moments : List Maps) (notes : List ScanNote) (slot from : ℕ) (tree : Tree) (bounds : Range) → ((n : ScanNote) → In n notes → n.slot ≢ slot) → GaveAllOf moments notes slot from tree bounds
gave_nothing moments notes slot from tree bounds none =
    let gave = gave_none slot notes none in
    record {
      ordered = subst (λ l. InOrder bounds.back l) (sym gave) tt;
      within = λ e i. absurd (subst (λ l. In e l) gave i);
      seen = λ n key value i s d. absurd (none n i s);
      complete = λ n i s d key inside each. absurd (none n i s);
    }

-- .. and a note that tells no pair and no end changes nothing
pub gives_none : {moments : List Maps} {notes : List ScanNote} {slot from : ℕ} {tree : Tree} {bounds : Range} → GaveAllOf moments notes slot from tree bounds → (x : ScanNote) → pair_of x.did ≡ []
    → ((key value : Key) → x.did ≢ did.Gave key value) → x.did ≢ did.Ended → GivesOn moments notes slot from tree bounds x
gives_none {notes = notes} {slot = slot} {bounds = bounds} old x none no_pair no_end = record {
  ordered = subst (λ l. InOrder bounds.back l) (sym (ap (λ l. gave_in slot notes ++ l) none ∙ append-nil (gave_in slot notes))) old.ordered;
  within = λ e i. absurd (subst (λ l. In e l) none i);
  seen = λ key value d. absurd (no_pair key value d);
  complete = λ d key inside each. absurd (no_end d);
}

-- by more moments
gave_later : {moments after : List Maps} {notes : List ScanNote} {slot from : ℕ} {tree : Tree} {bounds : Range} → GoesOn moments after → GaveAllOf moments notes slot from tree bounds → GaveAllOf after notes slot from tree bounds
gave_later goes old = record {
  ordered = old.ordered;
  within = old.within;
  seen = λ n key value i s d. still_at goes (le_of_eq refl) (old.seen n key value i s d);
  complete = λ n i s d key inside each. old.complete n i s d key inside (λ at maps b l there. each at maps b l (goes at maps there));
}

pub are_later : {moments after : List Maps} {notes : List ScanNote} → GoesOn moments after → AreScanned moments notes → AreScanned after notes
are_later goes old n tree lo hi back i d = gave_later goes (old n tree lo hi back i d)

-- with one note more
pub are_more : {moments : List Maps} {notes : List ScanNote} → AreScanned moments notes → (x : ScanNote)
    → ((n : ScanNote) (tree : Tree) (lo hi : Bound Key) (back : Bool) → In n notes → n.did ≡ did.Begun tree (Scan lo hi back) → x.slot ≡ n.slot → GivesOn moments notes n.slot n.at tree (record { lo = lo; hi = hi; back = back }) x)
    → ((tree : Tree) (lo hi : Bound Key) (back : Bool) → x.did ≡ did.Begun tree (Scan lo hi back) → GaveAllOf moments (notes ++ x ∷ []) x.slot x.at tree (record { lo = lo; hi = hi; back = back }))
    → AreScanned moments (notes ++ x ∷ [])
are_more {moments = moments} {notes = notes} old x facts begun n tree lo hi back i d = elim (note_either n notes x i) [
  | inl l ↦ gave_on (old n tree lo hi back l d) x (facts n tree lo hi back l d)
  | inr same ↦ subst (λ (m : ScanNote). GaveAllOf moments (notes ++ x ∷ []) m.slot m.at tree (record { lo = lo; hi = hi; back = back })) (sym same) (begun tree lo hi back (sym (ap (λ (m : ScanNote). m.did) same) ∙ d))
]
