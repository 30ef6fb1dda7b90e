-- Steps of the calls on keys of a machine end: each of them ends a call, or is one of the few in a row that go on.
use Rattle.std.proofs.Common.{◌≡◌, ◌≢◌, ℕ, zero, suc, ◌+◌, ◌<◌, ◌≤◌, List, [], ◌∷◌, Option, Some, None, option_map, sym, refl, ap, ◌∙◌, subst, inl, inr, ◌⊎◌, arith}
use Rattle.std.proofs.Math.Arith.{lt_of_le-ne}
use Rattle.sled_nodes.proofs.Basics.{none_some, some_is, same_or_not}
use Rattle.sled_nodes.specs.Order.{Key}
use Rattle.sled_store.specs.Store.{Store, now}
use Rattle.sled_store.specs.theory.Facts.{put_here}
use Rattle.sled_store.specs.Update.{put_at}
use Rattle.sled_model.specs.Maps.{Maps, Merge}
use Rattle.sled_model.specs.State.{State, CallInFlight, range_of, IsOnKey}
use Rattle.sled_model.specs.Transition.{transition_as}
use Rattle.sled_model.specs.declared.outcome.Outcome.{Outcome}
use Rattle.sled_model.specs.declared.outcome.Outcome.TheVariants as outcome
use Rattle.sled_model.specs.declared.outcome.Step.TheVariants as step
use Rattle.sled_tree.specs.declared.flight.InFlight.{InFlight}
use Rattle.tree_scans.specs.Scans.{waiting_in}
use Rattle.move_laws.specs.Meant.{moves_bound}
use Rattle.sled.specs.Flights.{call_in_flight_of}
use Rattle.machine_alone.specs.Step.{MachineStepContract}
use Rattle.machine_alone.specs.Values.{MachineValue, kept_at, slots_of, configuration_of}
use Rattle.machine_laws.specs.Moves.{flights_of, IsSound, IsReached, Steps, MovesInARow, Begins, Moves, IsEnding, Ends, EndsLaw}
use Rattle.machine_laws.proofs.Halving.{flying_there, reached_sound}
use Rattle.machine_laws.proofs.Moving.{moves_law}

-- how many calls are in flight
abbrev count_in : Option InFlight → ℕ
count_in None = 0
count_in (Some f) = 1

abbrev calls_up_to : (ℕ → Option InFlight) → ℕ → ℕ
calls_up_to kept zero = count_in (kept 0)
calls_up_to kept (suc n) = count_in (kept (suc n)) + calls_up_to kept n

same_calls : (old new : ℕ → Option InFlight) (n : ℕ) → ((q : ℕ) → q ≤ n → count_in (new q) ≡ count_in (old q)) → calls_up_to new n ≡ calls_up_to old n
same_calls old new zero same = same 0 least
  where
    least : 0 ≤ 0
    least = omega arith
same_calls old new (suc n) same = ap (λ z. z + calls_up_to new n) (same (suc n) (most (suc n))) ∙ ap (λ z. count_in (old (suc n)) + z) (same_calls old new n (λ q l. same q (more q l)))
  where
    most : (q : ℕ) → q ≤ q
    most q = omega arith

    more : (q : ℕ) → q ≤ n → q ≤ suc n
    more q l = omega arith

one_less : (old new : ℕ → Option InFlight) (slot : ℕ) (f : InFlight) → old slot ≡ Some f → new slot ≡ None → ((q : ℕ) → q ≢ slot → new q ≡ old q) → (n : ℕ) → slot ≤ n → calls_up_to new n + 1 ≡ calls_up_to old n
one_less old new slot f was is same zero l =
    let e : slot ≡ 0 = none l in
    sum _ _ (ap count_in (ap new (sym e) ∙ is)) (ap count_in (ap old (sym e) ∙ was))
  where
    none : slot ≤ 0 → slot ≡ 0
    none l = omega arith

    sum : (a b : ℕ) → a ≡ 0 → b ≡ 1 → a + 1 ≡ b
    sum a b e g = omega arith
one_less old new slot f was is same (suc n) l = elim (same_or_not slot (suc n)) [
  | inl e ↦ here _ _ _ _ (ap count_in (ap new (sym e) ∙ is)) (ap count_in (ap old (sym e) ∙ was)) (same_calls old new n (λ q m. ap count_in (same q (λ s. above q m (s ∙ e)))))
  | inr off ↦ there _ _ _ _ (ap count_in (same (suc n) (λ e. off (sym e)))) (one_less old new slot f was is same n (within (lt_of_le-ne l off)))
]
  where
    above : (q : ℕ) → q ≤ n → q ≡ suc n → ⊥
    above q l e = omega arith

    within : slot < suc n → slot ≤ n
    within l = omega arith

    here : (a b c d : ℕ) → a ≡ 0 → b ≡ 1 → c ≡ d → a + c + 1 ≡ b + d
    here a b c d e g h = omega arith

    there : (a b c d : ℕ) → a ≡ b → c + 1 ≡ d → a + c + 1 ≡ b + d
    there a b c d e g = omega arith

counted : (o : Option InFlight) (x : CallInFlight) → option_map call_in_flight_of o ≡ Some x → count_in o ≡ 1
counted None x e = none_some e
counted (Some f) x e = refl

none_kept : (o : Option InFlight) → option_map call_in_flight_of o ≡ None → o ≡ None
none_kept None e = refl
none_kept (Some f) e = none_some (sym e)

module _ {P M : Type 0} (store : P → Store) (number : P → ℕ) (meant : M → Merge) where
  abbrev calls : MachineValue P M → ℕ
  calls m = calls_up_to (kept_at m.flights) m.slots_given

  -- a step of a call on a key goes on, or ends it
  module _ (a b : MachineValue P M) (slot : ℕ) (f : InFlight) (x : IsSound store a) (there : kept_at a.flights slot ≡ Some f) (on_key : IsOnKey f.job.call) where
    abbrev Comes : Outcome → Type 0
    Comes o = ((o ≡ outcome.Moved) × (calls b ≡ calls a)) ⊎ (calls b + 1 ≡ calls a)

    abbrev Others : Type 0
    Others = (q : ℕ) → q ≢ slot → kept_at b.flights q ≡ kept_at a.flights q

    within : slot ≤ a.slots_given
    within = x.calls.given slot f there

    ends : (o : Outcome) → slots_of b.flights ≡ put_at (slots_of a.flights) slot None → b.slots_given ≡ a.slots_given → Others → Comes o
    ends o is given others = inr (ap (λ z. calls_up_to (kept_at b.flights) z + 1) given
        ∙ one_less (kept_at a.flights) (kept_at b.flights) slot f there (none_kept _ (ap (λ (s : ℕ → Option CallInFlight). s slot) is ∙ put_here (slots_of a.flights) slot None)) others a.slots_given within)

    goes_on : (y : CallInFlight) → slots_of b.flights ≡ put_at (slots_of a.flights) slot (Some y) → b.slots_given ≡ a.slots_given → Others → calls b ≡ calls a
    goes_on y is given others = ap (λ z. calls_up_to (kept_at b.flights) z) given ∙ same_calls (kept_at a.flights) (kept_at b.flights) a.slots_given (λ q l. elim (same_or_not q slot) [
      | inl e ↦ ap (λ z. count_in (kept_at b.flights z)) e ∙ counted _ y (ap (λ (s : ℕ → Option CallInFlight). s slot) is ∙ put_here (slots_of a.flights) slot (Some y)) ∙ sym (ap (λ z. count_in (kept_at a.flights z)) e ∙ ap count_in there)
      | inr off ↦ ap count_in (others q off)
    ])

    step_ends : (o : Outcome) (maps : List Maps) → Others → transition_as (configuration_of store number meant a) (step.Step slot) o (configuration_of store number meant b) maps → Comes o
    step_ends outcome.NoSuchSlot maps others t = none_some (sym t.0.0 ∙ ap (option_map call_in_flight_of) there)
    step_ends outcome.Moved maps others t = inl (refl, goes_on _ (ap (λ (s : State). s.slots) t.0.is) (ap (λ (s : State). s.slots_given) t.0.is) others)
    step_ends (outcome.Yielded key value) maps others t =
        let g = flying_there (kept_at a.flights slot) t.0.flying t.0.here in
        let same : g.0 ≡ f = some_is (sym g.1 ∙ there) in
        let waits : waiting_in f.stage f.aim (range_of f.job.call) ≡ (key, value) ∷ t.0.more = ap (λ (z : InFlight). (call_in_flight_of z).waiting) (sym same) ∙ ap (λ (z : CallInFlight). z.waiting) g.2 ∙ t.0.waits in
        absurd (off (sym (ap (waiting_in f.stage f.aim) on_key) ∙ waits))
      where
        off : {p : Key × Key} {ps : List (Key × Key)} → [] ≡ p ∷ ps → ⊥
        off e = cc
    step_ends (outcome.Decided reply) maps others t = ends (outcome.Decided reply) (ap (λ (s : State). s.slots) t.0.is) (ap (λ (s : State). s.slots_given) t.0.is) others
    step_ends (outcome.Refused e) maps others t = ends (outcome.Refused e) (ap (λ (s : State). s.slots) t.0.is) (ap (λ (s : State). s.slots_given) t.0.is) others
    step_ends (outcome.Begun other) maps others t = absurd t
    step_ends outcome.Abandoned maps others t = absurd t

  comes : (a b : MachineValue P M) (slot : ℕ) (f : InFlight) (o : Outcome) → IsSound store a → kept_at a.flights slot ≡ Some f → IsOnKey f.job.call → MachineStepContract store number meant a (step.Step slot) o b → ((o ≡ outcome.Moved) × (calls b ≡ calls a)) ⊎ (calls b + 1 ≡ calls a)
  comes a b slot f o x there on_key k = step_ends a b slot f x there on_key o k.step.maps (λ q off. k.slots.others q (λ e. off (sym (some_is e)))) k.step.step.is

  abbrev bound_of : MachineValue P M → ℕ
  bound_of m = moves_bound (now (store m.db.pages)) (flights_of m)

  abbrev Reached : MachineValue P M → Type 0
  Reached m = IsReached store number meant m

  abbrev Ending : MachineValue P M → Type 0
  Ending m = IsEnding store number meant m

  -- so many moves are left
  rest : (c : ℕ) → ((b : MachineValue P M) → Reached b → calls b < c → Ending b) → (first : MachineValue P M) → Reached first → (left n : ℕ) (m : MachineValue P M) → MovesInARow store number meant first n m → Reached m → calls m < suc c → n + left ≡ bound_of first → Ending m
  rest c fewer first start zero n m row r l e = Ends (λ slot f o next there on_key k is. elim (comes m next slot f o (reached_sound store number meant m r) there on_key k) [
    | inl moved ↦ absurd (none _ (moves_law store number meant first start (suc n) next (Moves row (subst (λ z. MachineStepContract store number meant m (step.Step slot) z next) moved.0 k) is)) e)
    | inr less ↦ fewer next (Steps r k is) (below _ _ less l)
  ])
    where
      none : (x : ℕ) → suc n ≤ x → n + 0 ≡ x → ⊥
      none x l e = omega arith

      below : (x y : ℕ) → x + 1 ≡ y → y < suc c → x < c
      below x y e l = omega arith
  rest c fewer first start (suc left) n m row r l e = Ends (λ slot f o next there on_key k is. elim (comes m next slot f o (reached_sound store number meant m r) there on_key k) [
    | inl moved ↦ rest c fewer first start left (suc n) next (Moves row (subst (λ z. MachineStepContract store number meant m (step.Step slot) z next) moved.0 k) is) (Steps r k is) (subst (λ z. z < suc c) (sym moved.1) l) (one_on _ e)
    | inr less ↦ fewer next (Steps r k is) (below _ _ less l)
  ])
    where
      one_on : (x : ℕ) → n + suc left ≡ x → suc n + left ≡ x
      one_on x e = omega arith

      below : (x y : ℕ) → x + 1 ≡ y → y < suc c → x < c
      below x y e l = omega arith

  ending : (c : ℕ) (m : MachineValue P M) → Reached m → calls m < c → Ending m
  ending zero m r l = absurd (none _ l)
    where
      none : (x : ℕ) → x < 0 → ⊥
      none x l = omega arith
  ending (suc c) m r l = rest c (ending c) m r (bound_of m) 0 m Begins r l (all _)
    where
      all : (x : ℕ) → 0 + x ≡ x
      all x = omega arith

  pub ends_law : EndsLaw store number meant
  ends_law m r = ending (suc (calls m)) m r (more _)
    where
      more : (x : ℕ) → x < suc x
      more x = omega arith
