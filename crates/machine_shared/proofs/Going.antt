-- Of which scans something is noted.
use Rattle.std.proofs.Common.{◌≡◌, ◌∙◌, ◌⊎◌, inl, inr, ℕ, nat_eq, Bool, true, false, cond, List, [], ◌∷◌, ◌++◌, append_assoc, append-nil, Option, Some, None, sym, refl, ap, subst}
use Rattle.std.proofs.lemmas.Bool.{eqb-true}
use Rattle.sled_nodes.proofs.Basics.{none_some, some_is}
use Rattle.sled_nodes.specs.Order.{Key}
use Rattle.sled_store.specs.In.{In}
use Rattle.sled_store.specs.Update.{put_at}
use Rattle.sled_model.specs.Maps.{Maps}
use Rattle.sled_model.specs.State.{State, CallInFlight, IsOnKey, range_of}
use Rattle.sled_model.specs.Transition.{Configuration, transition_as}
use Rattle.sled_model.specs.declared.reply.Reply.TheVariants as told
use Rattle.sled_model.specs.declared.outcome.Step.{Step}
use Rattle.sled_model.specs.declared.outcome.Step.TheVariants as step
use Rattle.sled_model.specs.declared.outcome.Outcome.{Outcome}
use Rattle.sled_model.specs.declared.outcome.Outcome.TheVariants as outcome
use Rattle.sled_model.proofs.Shapes.{call_begun}
use Rattle.scan_laws.proofs.Staying.{whole_stays}
use Rattle.machine_shared.specs.Scanned.{AreOfScans, HasBegun, IsBegin, is_of_scan}
use Rattle.machine_shared.specs.Scans.{noted_at, scanned_of}
use Rattle.machine_shared.specs.UnderWay.{AreGoing, IsNoted, IsQuiet}
use Rattle.machine_shared.specs.declared.scans.Scanned.TheVariants as did
use Rattle.machine_shared.specs.declared.scans.ScanNote.{ScanNote}
use Rattle.machine_shared.proofs.Gave.{note_left}
use Rattle.machine_shared.proofs.Noted.{no_end}

no_pair : {X : Type 0} {p : Key × Key} {ps : List (Key × Key)} → [] ≡ p ∷ ps → X
no_pair e = cc

note_last : (n : ScanNote) (ns : List ScanNote) → In n (ns ++ n ∷ [])
note_last n [] = inl refl
note_last n (x ∷ ns) = inr (note_last n ns)

still_begun : (notes more : List ScanNote) (slot : ℕ) (f : CallInFlight) → IsNoted notes slot f → IsNoted (notes ++ more) slot f
still_begun notes more slot f b = record { note = b.note; there = note_left b.note notes more b.there; here = b.here; is = b.is }

-- the begin of a scan that is noted is one
has_begun : (notes : List ScanNote) (slot : ℕ) (f : CallInFlight) → IsNoted notes slot f → HasBegun notes slot
has_begun notes slot f b = record { note = b.note; there = b.there; here = b.here; begins = subst (λ d. IsBegin d) (sym b.is) tt }

abbrev Going : List ScanNote → ℕ → CallInFlight → Type 0
Going notes slot f = IsNoted notes slot f ⊎ IsQuiet f

still_going : (notes more : List ScanNote) (slot : ℕ) (f : CallInFlight) → Going notes slot f → Going (notes ++ more) slot f
still_going notes more slot f (inl b) = inl (still_begun notes more slot f b)
still_going notes more slot f (inr q) = inr q

abbrev Slots : Type 0
Slots = ℕ → Option CallInFlight

same_going : (slots others : Slots) (notes more : List ScanNote) → others ≡ slots → AreGoing slots notes → AreGoing others (notes ++ more)
same_going slots others notes more same h slot f e = still_going notes more slot f (h slot f (sym (ap (λ (z : Slots). z slot) same) ∙ e))

put_going : (slots others : Slots) (i : ℕ) (x : Option CallInFlight) (notes more : List ScanNote) → others ≡ put_at slots i x → AreGoing slots notes → ((f : CallInFlight) → x ≡ Some f → Going (notes ++ more) i f) → AreGoing others (notes ++ more)
put_going slots others i x notes more same h new slot f e = go (nat_eq slot i) refl (sym (ap (λ (z : Slots). z slot) same) ∙ e)
  where
    go : (b : Bool) → nat_eq slot i ≡ b → cond b x (slots slot) ≡ Some f → Going (notes ++ more) slot f
    go true k e = subst (λ n. Going (notes ++ more) n f) (sym (eqb-true slot i k)) (new f e)
    go false k e = still_going notes more slot f (h slot f e)

-- a scan that begins is noted
abbrev pub begin_noted : Step → Outcome → List ScanNote → Type 0
begin_noted (step.Begin tree call) (outcome.Begun slot) notes = IsOnKey call ⊎ IsNoted notes slot (call_begun tree call)
begin_noted s o notes = Unit {0}

quiet_begun : (notes : List ScanNote) (slot : ℕ) (b f : CallInFlight) → IsOnKey b.call ⊎ IsNoted notes slot b → b.waiting ≡ [] → b.rest ≡ range_of b.call → Some b ≡ Some f → Going notes slot f
quiet_begun notes slot b f (inl key) none range e = subst (λ (z : CallInFlight). Going notes slot z) (some_is e) (inr (record { key = key; waits = none; reads = range ∙ key }))
quiet_begun notes slot b f (inr begun) none range e = subst (λ (z : CallInFlight). Going notes slot z) (some_is e) (inl begun)

goes_on : (notes : List ScanNote) (slot : ℕ) (f g : CallInFlight) → Going notes slot f → g.tree ≡ f.tree → g.call ≡ f.call → (IsQuiet f → (g.waiting ≡ []) × (g.rest ≡ None)) → Going notes slot g
goes_on notes slot f g (inl b) tree same quiet = inl (record { note = b.note; there = b.there; here = b.here; is = b.is ∙ ap (λ t. did.Begun t f.call) (sym tree) ∙ ap (λ c. did.Begun g.tree c) (sym same) })
goes_on notes slot f g (inr q) tree same quiet = inr (record { key = ap range_of same ∙ q.key; waits = (quiet q).0; reads = (quiet q).1 })

-- after each step of the model
pub going_after : (a b : Configuration) (s : Step) (o : Outcome) (maps : List Maps) → transition_as a s o b maps → (notes more : List ScanNote) → AreGoing a.state.slots notes → begin_noted s o (notes ++ more) → AreGoing b.state.slots (notes ++ more)
going_after a b (step.Begin tree call) (outcome.Begun slot) maps t notes more h new =
    put_going a.state.slots b.state.slots slot (Some (call_begun tree call)) notes more (ap (λ (z : State). z.slots) t.0.is) h (λ f e. quiet_begun (notes ++ more) slot (call_begun tree call) f new refl refl e)
going_after a b (step.Begin tree call) (outcome.Refused x) maps t notes more h new = same_going a.state.slots b.state.slots notes more (ap (λ (z : State). z.slots) t.1) h
going_after a b (step.Step i) outcome.NoSuchSlot maps t notes more h new = same_going a.state.slots b.state.slots notes more (ap (λ (z : State). z.slots) t.0.1) h
going_after a b (step.Step i) outcome.Moved maps t notes more h new =
    put_going a.state.slots b.state.slots i _ notes more (ap (λ (z : State). z.slots) t.0.is) h (λ f e.
    subst (λ (z : CallInFlight). Going (notes ++ more) i z) (some_is e)
    (goes_on (notes ++ more) i t.0.flying _ (still_going notes more i t.0.flying (h i t.0.flying t.0.here)) refl refl
    (λ q. elim t.0.reads [
      | inl same ↦ (same.0 ∙ q.waits, same.1 ∙ q.reads)
      | inr part ↦ none_some (sym q.reads ∙ part.had)
    ])))
going_after a b (step.Step i) (outcome.Yielded key value) maps t notes more h new =
    put_going a.state.slots b.state.slots i _ notes more (ap (λ (z : State). z.slots) t.0.is) h (λ f e.
    subst (λ (z : CallInFlight). Going (notes ++ more) i z) (some_is e)
    (goes_on (notes ++ more) i t.0.flying _ (still_going notes more i t.0.flying (h i t.0.flying t.0.here)) refl refl
    (λ q. no_pair (sym q.waits ∙ t.0.waits))))
going_after a b (step.Step i) (outcome.Decided reply) maps t notes more h new = put_going a.state.slots b.state.slots i None notes more (ap (λ (z : State). z.slots) t.0.is) h (λ f e. none_some e)
going_after a b (step.Step i) (outcome.Refused x) maps t notes more h new = put_going a.state.slots b.state.slots i None notes more (ap (λ (z : State). z.slots) t.0.is) h (λ f e. none_some e)
going_after a b (step.Abandon i) outcome.NoSuchSlot maps t notes more h new = same_going a.state.slots b.state.slots notes more (ap (λ (z : State). z.slots) t.0.1) h
going_after a b (step.Abandon i) outcome.Abandoned maps t notes more h new = put_going a.state.slots b.state.slots i None notes more (ap (λ (z : State). z.slots) t.0.is) h (λ f e. none_some e)
going_after a b (step.Whole w) o maps t notes more h new = same_going a.state.slots b.state.slots notes more (whole_stays a w o b maps t).slots h
going_after a b (step.Begin tree call) other maps t notes more h new = absurd t
going_after a b (step.Step i) other maps t notes more h new = absurd t
going_after a b (step.Abandon i) other maps t notes more h new = absurd t

-- one more is noted
pub of_one_more : (before notes : List ScanNote) (n : ScanNote) → AreOfScans before notes → is_of_scan (before ++ notes) n.slot n.did → AreOfScans before (notes ++ n ∷ [])
of_one_more before [] n h x = (subst (λ ns. is_of_scan ns n.slot n.did) (append-nil before) x, tt)
of_one_more before (m ∷ ns) n h x = (h.0, of_one_more (before ++ m ∷ []) ns n h.1 (subst (λ z. is_of_scan z n.slot n.did) (sym (append_assoc before (m ∷ []) ns)) x))

-- what a step of a slot was of a scan is of one that is in flight
pub of_step : (a b : Configuration) (i at : ℕ) (o : Outcome) (maps : List Maps) → transition_as a (step.Step i) o b maps → (notes : List ScanNote) → AreGoing a.state.slots notes → AreOfScans [] notes → AreOfScans [] (notes ++ noted_at i at (scanned_of o))
of_step a b i at o maps t notes h of = go o t
  where
    nothing : AreOfScans [] (notes ++ [])
    nothing = subst (λ ns. AreOfScans [] ns) (sym (append-nil notes)) of

    begun : (f : CallInFlight) → a.state.slots i ≡ Some f → (IsQuiet f → ⊥) → HasBegun notes i
    begun f here never = elim (h i f here) [ inl b ↦ has_begun notes i f b | inr q ↦ absurd (never q) ]

    go : (o : Outcome) → transition_as a (step.Step i) o b maps → AreOfScans [] (notes ++ noted_at i at (scanned_of o))
    go (outcome.Yielded key value) t = of_one_more [] notes (record { slot = i; at = at; did = did.Gave key value }) of (begun t.0.flying t.0.here (λ q. no_pair (sym q.waits ∙ t.0.waits)))
    go (outcome.Decided told.End) t = of_one_more [] notes (record { slot = i; at = at; did = did.Ended }) of (begun t.0.flying t.0.here (λ q. no_end t.0.tree.merge t.0.flying.call _ q.key (sym t.0.replies)))
    go (outcome.Decided reply) t = nothing
    go other t = nothing

-- the begin of a scan, as it is noted
pub begun_last : (notes : List ScanNote) (slot : ℕ) (n : ScanNote) (f : CallInFlight) → n.slot ≡ slot → n.did ≡ did.Begun f.tree f.call → IsNoted (notes ++ n ∷ []) slot f
begun_last notes slot n f here is = record { note = n; there = note_last n notes; here = here; is = is }
