-- What is tested of a page by itself.
use Rattle.std.proofs.Common.{◌≡◌, ◌≢◌, ℕ, zero, suc, true, T, List, Some, sym, refl, ap, ◌∙◌, subst}
use Rattle.std.specs.List.{All}
use Rattle.std.specs.FinMap.Entries.{is_sorted}
use Rattle.std.specs.Cmp.Lexicographic.{slice_cmp}
use Rattle.std.specs.Ordering.{nat_cmp}
use Rattle.sled_nodes.proofs.Basics.{of_true}
use Rattle.sled_nodes.specs.Node.{Within}
use Rattle.sled_nodes.specs.Order.{Key, key_cmp}
use Rattle.sled_nodes.specs.declared.node.Node.{Node}
use Rattle.sled_nodes.specs.declared.node.Data.{Data}
use Rattle.sled_nodes.specs.declared.node.Data.TheVariants.{Leaf, Index}
use Rattle.tree_laws.specs.Forest.{IsNodeAt, Holds, first_key}
use Rattle.tree_check.proofs.Listed.{all_by}

pub sorted_keys : {X : Type 0} (es : List (Key × X)) → is_sorted (slice_cmp nat_cmp) es ≡ true → T (is_sorted key_cmp es)
unfolding key_cmp
sorted_keys es e = of_true _ e

leaf_holds : (h : ℕ) (lo hi : Key) (d : Data) (es : List (Key × Key)) → h ≡ 0 → d ≡ Leaf es → T (is_sorted key_cmp es) → All (λ e. Within lo hi e.0) es → Holds h lo hi d
leaf_holds h lo hi d es at is sorted within = subst (λ z. Holds z lo hi d) (sym at) (subst (Holds 0 lo hi) (sym is) (sorted, all_by _ es within))

index_holds : (h : ℕ) (lo hi : Key) (d : Data) (es : List (Key × ℕ)) → h ≢ 0 → d ≡ Index es → T (is_sorted key_cmp es) → All (λ e. Within lo hi e.0) es → first_key es ≡ Some lo → Holds h lo hi d
index_holds zero lo hi d es at is sorted within first = absurd (at refl)
index_holds (suc h) lo hi d es at is sorted within first = subst (Holds (suc h) lo hi) (sym is) (sorted, all_by _ es within, first)

pub leaf_sound : (h : ℕ) (n : Node) (es xs : List (Key × Key)) → h ≡ 0 → n.content ≡ Leaf es → xs ≡ es → is_sorted (slice_cmp nat_cmp) xs ≡ true → All (λ e. Within n.lo n.hi e.0) xs → IsNodeAt h n
leaf_sound h n es xs at is same sorted within = record { holds = leaf_holds h n.lo n.hi n.content xs at (is ∙ ap Leaf (sym same)) (sorted_keys xs sorted) within }

pub index_sound : (h : ℕ) (n : Node) (es xs : List (Key × ℕ)) → h ≢ 0 → n.content ≡ Index es → xs ≡ es → is_sorted (slice_cmp nat_cmp) xs ≡ true → All (λ e. Within n.lo n.hi e.0) xs → first_key xs ≡ Some n.lo → IsNodeAt h n
index_sound h n es xs at is same sorted within first = record { holds = index_holds h n.lo n.hi n.content xs at (is ∙ ap Index (sym same)) (sorted_keys xs sorted) within first }
