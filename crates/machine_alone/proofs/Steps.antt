-- Steps of the call in a slot.
use Rattle.std.proofs.Common.{◌≡◌, ◌≢◌, ℕ, true, false, cond, nat_eq, Option, Some, None, sym, refl, ap, ◌∙◌}
use Rattle.std.proofs.lemmas.Bool.{eqb-true}
use Rattle.sled_nodes.specs.Order.{Key}
use Rattle.sled_store.specs.Update.{put_at}
use Rattle.sled_store.specs.theory.Facts.{put_here}
use Rattle.sled_model.specs.declared.outcome.Outcome.{Outcome}
use Rattle.sled_tree.specs.declared.flight.InFlight.{InFlight}
use Rattle.sled_tree.specs.declared.flight.Went.{Went}
use Rattle.sled_tree.specs.declared.flight.Went.TheVariants.{Moved, Yielded, Decided, Refused}
use Rattle.sled.specs.Values.{DbValue}
use Rattle.tree_steps.specs.Outcomes.{outcome_of}
use Rattle.machine_alone.specs.StepsInSlot.{flight_after}

module _ {X : Type 0} where
  pub put_same : (f g : ℕ → Option X) (n : ℕ) (o : Option X) (q : ℕ) → f q ≡ g q → put_at f n o q ≡ put_at g n o q
  put_same f g n o q e = ap (λ x. cond (nat_eq q n) o x) e

  pub put_again : (f : ℕ → Option X) (n : ℕ) (x o : Option X) (q : ℕ) → put_at (put_at f n x) n o q ≡ put_at f n o q
  put_again f n x o q = elim (nat_eq q n) as (λ b. cond b o (cond b x (f q)) ≡ cond b o (f q)) [ true ↦ refl | false ↦ refl ]

  -- nothing changes where what stands is put
  pub put_itself : (f : ℕ → Option X) (n : ℕ) (o : Option X) (q : ℕ) → f n ≡ o → put_at f n o q ≡ f q
  put_itself f n o q e = elim (nat_eq q n) as (λ b. nat_eq q n ≡ b → cond b o (f q) ≡ f q) [
    | true ↦ λ t. sym (ap f (eqb-true q n t) ∙ e)
    | false ↦ λ t. refl
  ] refl

-- a call that goes on, or gave a pair, stands where it stood
pub stays_after : (flights : ℕ → Option InFlight) (slot : ℕ) (went was : Went) (g : InFlight) → went ≡ was → flight_after was g ≡ Some g → flights slot ≡ Some g → (q : ℕ) → flights q ≡ put_at flights slot (flight_after went g) q
stays_after flights slot went was g is stays there q = sym (put_itself flights slot (flight_after went g) q (there ∙ sym (ap (λ w. flight_after w g) is ∙ stays)))

-- a call went on where it stands, and its slot keeps what it is to keep then
pub settled : (flights mid after : ℕ → Option InFlight) (slot : ℕ) (went : Went) (next : InFlight) → ((q : ℕ) → mid q ≡ put_at flights slot (Some next) q) → ((flight : InFlight) → mid slot ≡ Some flight → (q : ℕ) → after q ≡ put_at mid slot (flight_after went flight) q) → (q : ℕ) → after q ≡ put_at flights slot (flight_after went next) q
settled flights mid after slot went next is stays q =
    stays next (is slot ∙ put_here flights slot (Some next)) q ∙ put_same mid (put_at flights slot (Some next)) slot (flight_after went next) q (is q) ∙ put_again flights slot (Some next) (flight_after went next) q
