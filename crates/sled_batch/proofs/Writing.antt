-- What a map in memory makes of an insert, as the put of a key.
use Rattle.std.proofs.Common.{◌≡◌, List, [], ◌∷◌, Option, refl, sym, ap, subst}
use Rattle.std.specs.BTreeMap.{insert_entry}
use Rattle.std.specs.declared.cmp.Ordering.{Ordering}
use Rattle.std.specs.declared.cmp.Ordering.TheVariants.{Less, Equal, Greater}
use Rattle.std.specs.Ordering.{match_ordering}
use Rattle.std.specs.FinMap.Entries.{by_order, put}
use Rattle.std.specs.Cmp.Lexicographic.{nat_list_cmp_total}
use Rattle.sled_nodes.specs.Order.{Key, key_cmp}
use Rattle.sled_nodes.proofs.Rising.{rises_put}
use Rattle.sled_batch.specs.Batch.{Writes, Rises}

ordered : {K X : Type 0} (k : K) (v : X) (e : K × X) (es inserted put : List (K × X)) (r : Ordering) → inserted ≡ put
    → match_ordering r ((k, v) ∷ e ∷ es) ((e.0, v) ∷ es) (e ∷ inserted) ≡ by_order r ((k, v) ∷ e ∷ es) ((e.0, v) ∷ es) (e ∷ put)
ordered k v e es inserted put Less same = refl
ordered k v e es inserted put Equal same = refl
ordered k v e es inserted put Greater same = ap (λ l. e ∷ l) same

pub inserted : {K X : Type 0} (cmp : K → K → Ordering) (es : List (K × X)) (k : K) (v : X) → insert_entry cmp es k v ≡ put cmp k v es
inserted cmp [] k v = refl
inserted cmp (e ∷ es) k v = ordered k v e es (insert_entry cmp es k v) (put cmp k v es) (cmp k e.0) (inserted cmp es k v)

pub rises_on : (old new : Writes) (k : Key) (v : Option Key) → Rises old → new ≡ put key_cmp k v old → Rises new
unfolding key_cmp
rises_on old new k v rises is = subst Rises (sym is) (rises_put key_cmp nat_list_cmp_total k v old rises)
