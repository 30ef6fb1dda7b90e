-- What a crash makes of the maps of a database.
use Rattle.std.proofs.Common.{◌≡◌, ℕ, [], ◌∷◌, sym, refl, ap, ◌∙◌, subst, inl, inr}
use Rattle.sled_nodes.specs.Order.{Key}
use Rattle.sled_store.specs.In.{In}
use Rattle.sled_store.specs.State.{State}
use Rattle.sled_store.specs.Store.{Store, now}
use Rattle.sled_store.specs.Crash.{crash_states, Crashes}
use Rattle.sled_store.specs.theory.Facts.{may_leave_crashed}
use Rattle.sled_model.specs.Maps.{Maps, Merge}
use Rattle.sled_model.specs.State.{default_name}
use Rattle.tree_laws.specs.Contents.{trees_of}
use Rattle.sled.specs.Opens.{Opens}
use Rattle.sled.specs.Sound.{IsDb}
use Rattle.sled.specs.Values.{DbValue}
use Rattle.example_parts.specs.Reads.{found_in, maps_now}
use Rattle.example_parts.proofs.Maps.{maps_are, with_tree_alike}
use Rattle.example_transactions.specs.Throughout.{IsSettled, Recovers}

-- where a crash can leave the state now alone, its maps are settled
only_now : (s : Store) → crash_states s ≡ now s ∷ [] → IsSettled s (trees_of (now s))
only_now s e = record {
  as_is = refl;
  left = λ state left. elim (subst (λ l. In state l) e left.is) [
    | inl same ↦ ap trees_of same
    | inr none ↦ absurd none
  ];
}

module _ {P M N : Type 0} (store : P → Store) (meant : M → Merge) where
  pub recovers : (keep : ℕ) (old left : Store) (called : Key) (opened : DbValue P N) (d : DbValue P M) → Crashes keep old left → Opens store left called opened → d.pages ≡ opened.pages → IsDb store d → Recovers old (store d.pages) (maps_now store meant d)
  recovers keep old left called opened d c o same sound = record {
    state = left.base;
    may = may_leave_crashed keep old left c;
    has = λ name key. ap (λ (maps : Maps). found_in (maps name) key) (sym here ∙ o.maps) ∙ with_tree_alike default_name (trees_of (now left)) name key ∙ ap (λ (s : State). found_in (trees_of s name) key) base;
    settled = subst (λ (p : P). IsSettled (store p) (maps_now store meant d)) (sym same) (subst (IsSettled (store opened.pages)) here (only_now (store opened.pages) o.left));
  }
    where
      base : now left ≡ left.base
      base = ap now c.is ∙ sym (ap (λ (s : Store). s.base) c.is)

      here : trees_of (now (store opened.pages)) ≡ maps_now store meant d
      here = ap (λ (p : P). trees_of (now (store p))) (sym same) ∙ sym (maps_are store meant d sound)
