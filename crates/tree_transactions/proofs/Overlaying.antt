-- Overlays as maps in memory.
use Rattle.std.proofs.Common.{◌≡◌, cond, Ordering, List, [], ◌∷◌, ◌++◌, append_assoc, append-nil, Option, Some, refl, sym, ap, ◌∙◌}
use Rattle.std.specs.FinMap.Entries.{find, put}
use Rattle.std.specs.BTreeMap.{is_at}
use Rattle.std.specs.Map.{lookup}
use Rattle.std.specs.Ordering.{eq_by_cmp}
use Rattle.sled_nodes.specs.Order.{Key, key_cmp}
use Rattle.sled_batch.specs.Batch.{Writes}
use Rattle.tree_transactions.specs.Overlays.{put_all, PutsSome}

-- a map in memory finds what is found among its entries
pub found : {K X : Type 0} (cmp : K → K → Ordering) (q : K) (es : List (K × X)) → lookup (is_at (cmp q)) es ≡ find cmp q es
found cmp q [] = refl
found cmp q (e ∷ es) = ap (cond (eq_by_cmp cmp q e.0) (Some e.1)) (found cmp q es)

put_last : (done : Writes) (k : Key) (v : Option Key) (overlay : Writes) → put_all (done ++ (k, v) ∷ []) overlay ≡ put key_cmp k v (put_all done overlay)
put_last [] k v overlay = refl
put_last (d ∷ done) k v overlay = put_last done k v (put key_cmp d.0 d.1 overlay)

-- so far these were put, and those are left
pub record SoFar (writes old new left : Writes) : Type 0 where
  pub done : Writes
  pub all : done ++ left ≡ writes
  pub is : new ≡ put_all done old

pub puts_none : (writes old : Writes) → SoFar writes old old writes
puts_none writes old = record { done = []; all = refl; is = refl }

pub puts_more : (writes old new left : Writes) (k : Key) (v : Option Key) (more next : Writes) → SoFar writes old new left → left ≡ (k, v) ∷ more → next ≡ put key_cmp k v new → SoFar writes old next more
puts_more writes old new left k v more next s e put_is = record {
  done = s.done ++ (k, v) ∷ [];
  all = append_assoc s.done ((k, v) ∷ []) more ∙ ap (λ l. s.done ++ l) (sym e) ∙ s.all;
  is = put_is ∙ ap (put key_cmp k v) s.is ∙ sym (put_last s.done k v old);
}

pub puts_all : (writes old new left : Writes) → SoFar writes old new left → left ≡ [] → new ≡ put_all writes old
puts_all writes old new left s e = s.is ∙ ap (λ l. put_all l old) (sym (append-nil s.done) ∙ ap (λ l. s.done ++ l) (sym e) ∙ s.all)

pub puts_some : (writes old new left : Writes) (w : Key × Option Key) (more : Writes) → SoFar writes old new left → left ≡ w ∷ more → PutsSome writes old new
puts_some writes old new left w more s e = record { done = s.done; next = w; left = more; all = ap (λ l. s.done ++ l) (sym e) ∙ s.all; is = s.is }
