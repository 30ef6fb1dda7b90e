-- Why typed calls are refused.
use Rattle.std.proofs.Common.{◌≡◌, inl, inr, Err, sym, refl, subst}
use Rattle.std.specs.declared.ops.Bound.{Bound}
use Rattle.sled_nodes.specs.Order.{Key}
use Rattle.sled_nodes.specs.declared.error.Error.{Error}
use Rattle.sled_nodes.specs.declared.error.Error.TheVariants.{NoMemory}
use Rattle.sled_store.specs.Store.{Store}
use Rattle.sled_model.specs.Maps.{Merge}
use Rattle.sled_model.specs.declared.call.Call.TheVariants.{Insert}
use Rattle.sled_model.specs.declared.tree.Tree.{Tree}
use Rattle.tree_reads.specs.Ranges.{Coming}
use Rattle.tree_reads.specs.Walk.{RefusesWalk, once}
use Rattle.sled.specs.Direct.{PointRefused}
use Rattle.sled.specs.Reads.{BeginsRange, RefusesReading, RefusesRange, GivesUpGet}
use Rattle.sled.specs.Sound.{IsDb}
use Rattle.sled.specs.Values.{DbValue}
use Rattle.sled.proofs.Ranged.{range_stopped, range_untold}
use Rattle.typed_map.specs.Typed.{Spelling, refused_as, RefusesPut, RefusesLookUp, RefusesListing}
use Rattle.typed_map.specs.declared.typed.TypedError.{TypedError}
use Rattle.typed_map.specs.declared.typed.TypedError.TheVariants.{Foreign, Refused}

pub told_as : (why : Error → Type 0) (told : TypedError) (e : Error) → told ≡ Refused e → why e → refused_as why told
told_as why told e is k = subst (refused_as why) (sym is) k

pub for_more : (why more : Error → Type 0) → ((e : Error) → why e → more e) → (told : TypedError) → refused_as why told → refused_as more told
for_more why more f Foreign k = tt
for_more why more f (Refused e) k = f e k

module _ {P M : Type 0} (store : P → Store) (meant : M → Merge) where
  module _ {K V : Type 0} (keys : Spelling K) (values : Spelling V) (old : DbValue P M) (tree : Tree) (key : K) (value : V) (e : Error) where
    pub short_put : e ≡ NoMemory → RefusesPut store meant keys values old tree key value e old
    short_put short = record { is = inl (short, refl) }

    pub put_as_insert : (k v : Key) → k ≡ keys.bytes key → v ≡ values.bytes value → (new : DbValue P M) → PointRefused store meant old tree (Insert k v) e new → RefusesPut store meant keys values old tree key value e new
    put_as_insert k v k-is v-is new p = record {
      is = inr (subst (λ b. PointRefused store meant old tree (Insert (keys.bytes key) b) e new) v-is (subst (λ a. PointRefused store meant old tree (Insert a v) e new) k-is p));
    }

  module _ {K : Type 0} (keys : Spelling K) (d : DbValue P M) (tree : Tree) (key : K) (e : Error) where
    pub short_look_up : e ≡ NoMemory → RefusesLookUp store meant keys d tree key e
    short_look_up short = record { is = inl short }

    pub look_up_as_get : (k : Key) → k ≡ keys.bytes key → RefusesReading store meant d tree once e → GivesUpGet store meant d tree k e → RefusesLookUp store meant keys d tree key e
    look_up_as_get k k-is r g = record { is = inr (r, subst (λ a. GivesUpGet store meant d tree a e) k-is g) }

  module _ (d : DbValue P M) (tree : Tree) (e : Error) where
    pub short_listing : e ≡ NoMemory → RefusesListing store meant d tree e
    short_listing short = record { is = inl short }

    pub listing_as_range : RefusesRange store meant d tree e → RefusesListing store meant d tree e
    listing_as_range r = record { is = inr (range_untold store meant d tree e r) }

    pub listing_as_walk : (lo hi : Bound Key) (pairs : Coming P) → BeginsRange store meant d tree lo hi pairs → IsDb store d → RefusesWalk once (store pairs.pages) pairs.root e → RefusesListing store meant d tree e
    listing_as_walk lo hi pairs begins db k = record { is = inr (range_stopped store meant d tree lo hi pairs begins db (Err e) k) }
