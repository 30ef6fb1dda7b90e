-- Roots as a sorted list of pairs.
use Rattle.std.proofs.Common.{◌≡◌, ℕ, Bool, true, false, not, cond, List, Option, Some, None, Result, Ok, Err, OnOk, OnErr, refl, sym, ap, ◌∙◌}
use Rattle.std.proofs.Math.Path.{fun_ext}
use mathlib.Core.Bool.{true≢false}
use Rattle.std.specs.Str.{bytes_eq}
use Rattle.std.specs.FinMap.{slice_cmp-IsAntisymmetric, nat_cmp-IsAntisymmetric}
use Rattle.std.specs.FinMap.Entries.{put, find, where_key, is_sorted, find-put, find-where_key, is_sorted-put, is_sorted-where_key}
use Rattle.std.specs.Ordering.{nat_cmp, eq_by_cmp}
use Rattle.std.specs.Cmp.Lexicographic.{slice_cmp, nat_list_cmp_total, texts_ties}
use Rattle.sled_nodes.proofs.Basics.{true_of, of_true}
use Rattle.sled_nodes.specs.Order.{Key, key_cmp}
use Rattle.sled_store.specs.Update.{put_name}
use Rattle.sled_store.specs.Roots.{roots_of}
use Rattle.sled_store.specs.theory.Facts.{same_name, name_itself}

-- the roots with a pair put in, or without a name
pub root_put : (name : Key) (pid : ℕ) (roots : List (Key × ℕ)) → roots_of (put (slice_cmp nat_cmp) name pid roots) ≡ put_name (roots_of roots) name (Some pid)
unfolding key_cmp
root_put name pid roots = fun_ext (λ q. find-put (slice_cmp nat_cmp) nat_list_cmp_total q name pid roots ∙ ap (λ b. cond b (Some pid) (find (slice_cmp nat_cmp) q roots)) (sym (texts_ties q name)))

pub same_test : (q name : Key) → bytes_eq name q ≡ bytes_eq q name
same_test q name =
    elim (bytes_eq q name) as (λ b. bytes_eq q name ≡ b → bytes_eq name q ≡ b) [
      | true ↦ λ e. ap (λ x. bytes_eq x q) (sym (same_name q name e)) ∙ name_itself q
      | false ↦ λ e. elim (bytes_eq name q) as (λ b. bytes_eq name q ≡ b → b ≡ false) [
        | true ↦ λ d. absurd (true≢false (sym (name_itself name) ∙ (ap (λ x. bytes_eq x name) (same_name name q d) ∙ e)))
        | false ↦ λ d. refl
      ] refl
    ] refl

flip : (b : Bool) (o : Option ℕ) → cond (not b) o None ≡ cond b None o
flip true o = refl
flip false o = refl

pub root_out : (name : Key) (roots : List (Key × ℕ)) → roots_of (where_key (slice_cmp nat_cmp) (λ x. not (eq_by_cmp (slice_cmp nat_cmp) name x)) roots) ≡ put_name (roots_of roots) name None
unfolding key_cmp
root_out name roots = fun_ext (λ q.
    find-where_key (slice_cmp nat_cmp) (λ x. not (eq_by_cmp (slice_cmp nat_cmp) name x)) q (λ x e. ap (λ y. not (eq_by_cmp (slice_cmp nat_cmp) name y)) (sym (slice_cmp-IsAntisymmetric nat_cmp-IsAntisymmetric q x e))) roots
    ∙ (ap (λ b. cond (not b) (find (slice_cmp nat_cmp) q roots) None) (sym (texts_ties name q) ∙ same_test q name) ∙ flip (bytes_eq q name) (find (slice_cmp nat_cmp) q roots)))

put_ascends : (name : Key) (pid : ℕ) (roots : List (Key × ℕ)) → is_sorted key_cmp roots ≡ true → is_sorted key_cmp (put (slice_cmp nat_cmp) name pid roots) ≡ true
unfolding key_cmp
put_ascends name pid roots h = true_of _ (is_sorted-put (slice_cmp nat_cmp) nat_list_cmp_total name pid roots (of_true _ h))

-- roots stay in order
pub out_ascends : (keeps : Key → Bool) (roots new : List (Key × ℕ)) → new ≡ where_key (slice_cmp nat_cmp) keeps roots → is_sorted key_cmp roots ≡ true → is_sorted key_cmp new ≡ true
unfolding key_cmp
out_ascends keeps roots new e h = ap (is_sorted (slice_cmp nat_cmp)) e ∙ true_of _ (is_sorted-where_key (slice_cmp nat_cmp) keeps roots (of_true _ h))

pub put_told : {E : Type 0} (name : Key) (pid : ℕ) (roots new : List (Key × ℕ)) (r : Result (Unit {0}) E) → OnOk r (new ≡ put (slice_cmp nat_cmp) name pid roots) → OnErr r (new ≡ roots) → is_sorted key_cmp roots ≡ true → is_sorted key_cmp new ≡ true
put_told name pid roots new (Ok done) e f h = ap (is_sorted key_cmp) e ∙ put_ascends name pid roots h
put_told name pid roots new (Err x) e f h = ap (is_sorted key_cmp) f ∙ h
