-- How large trees are, counted along their pages.
use Rattle.std.proofs.Common.{◌≡◌, ℕ, zero, suc, ◌+◌, ◌<◌, max, List, [], ◌∷◌, ◌++◌, length, length-append, get_or, take, unwrap_or, Option, Some, None, Result, IfOk, option_map, fold, sum_by, refl, sym, ap, ◌∙◌, subst, arith}
use Rattle.std.proofs.lemmas.List.{take_more}
use Rattle.std.proofs.lemmas.List.Sums.{fold-append, sum_by-append, sum_by_push}
use Rattle.sled_nodes.specs.Order.{Key}
use Rattle.sled_nodes.specs.declared.error.Error.{Error}
use Rattle.sled_nodes.specs.declared.node.Node.{Node}
use Rattle.sled_store.specs.State.{Nodes, State, nodes_of}
use Rattle.sled_model.specs.Maps.{Map}
use Rattle.tree_laws.specs.Forest.{node_pairs}
use Rattle.tree_laws.specs.Contents.{first_of, next_of, first_leaf, along, pairs_under, page_numbers}
use Rattle.tree_laws.specs.Paths.{length_along, pages_under, tree_pages}
use Rattle.tree_pages.specs.Stats.{levels_under, tree_levels, tree_pairs, key_bytes_of, value_bytes_of, AreStats}
use Rattle.tree_pages.specs.theory.Stats.{IsHeight, Weighs, IsTree, Adds}
use Rattle.tree_pages.specs.declared.stats.Height.{Height}
use Rattle.tree_pages.specs.declared.stats.Stats.{Stats}
use Rattle.tree_pages.specs.declared.stats.Weight.{Weight}
use Rattle.tree_pages.proofs.Walks.{Left, at_first, one_more, IsAlong, along_first, along_more, along_ends}

zero_and : (n : ℕ) → 0 + n ≡ n
zero_and n = omega arith

shifted : (a b : ℕ) → (a + 1) + b ≡ a + (b + 1)
shifted a b = omega arith

none_more : (a b : ℕ) → b ≡ 0 → a + b ≡ a
none_more a b e = omega arith

-- ---- the pages of a level

-- so many pages were counted along a level, which goes on at the cursor
pub record IsCounted (nodes : Nodes) (first : ℕ) (cursor : Option ℕ) (done : ℕ) : Type 0 where
  pub left : ℕ
  pub counts : Left done left
  pub is : done + length_along left nodes cursor ≡ length_along page_numbers nodes (Some first)

pub counted_first : (nodes : Nodes) (first : ℕ) → IsCounted nodes first (Some first) 0
counted_first nodes first = record { left = page_numbers; counts = at_first; is = zero_and (length_along page_numbers nodes (Some first)) }

no_page : (n : ℕ) (nodes : Nodes) → length_along n nodes None ≡ 0
no_page zero nodes = refl
no_page (suc n) nodes = refl

pub counted_ends : (nodes : Nodes) (first : ℕ) (cursor : Option ℕ) (done : ℕ) → IsCounted nodes first cursor done → cursor ≡ None → done ≡ length_along page_numbers nodes (Some first)
counted_ends nodes first cursor done d c = sym (none_more done (length_along d.left nodes cursor) (ap (length_along d.left nodes) c ∙ no_page d.left nodes)) ∙ d.is

pub counted_more : (nodes : Nodes) (first : ℕ) (cursor : Option ℕ) (pid done : ℕ) (next : Option ℕ) → done < 18446744073709551615 → IsCounted nodes first cursor done → cursor ≡ Some pid → next ≡ next_of (nodes pid) → IsCounted nodes first next (done + 1)
counted_more nodes first cursor pid done next h d c e =
    let k = one_more done d.left h d.counts in record {
      left = k.0;
      counts = k.2;
      is = shifted done (length_along k.0 nodes next)
          ∙ ap (λ z. done + (length_along k.0 nodes z + 1)) e
          ∙ ap (λ n. done + length_along n nodes (Some pid)) (sym k.1)
          ∙ ap (λ z. done + length_along d.left nodes z) (sym c)
          ∙ d.is;
    }

-- ---- the levels of a tree

-- so many levels with so many pages were counted down from a root, and the next one begins at the cursor
pub record IsHigh (nodes : Nodes) (root total : ℕ) (cursor : Option ℕ) (done : ℕ) : Type 0 where
  pub left : ℕ
  pub counts : Left done left
  pub levels : done + levels_under left nodes cursor ≡ levels_under page_numbers nodes (Some root)
  pub pages : total + pages_under left nodes cursor ≡ pages_under page_numbers nodes (Some root)

pub high_first : (nodes : Nodes) (root : ℕ) → IsHigh nodes root 0 (Some root) 0
high_first nodes root = record { left = page_numbers; counts = at_first; levels = zero_and (levels_under page_numbers nodes (Some root)); pages = zero_and (pages_under page_numbers nodes (Some root)) }

no_levels : (n : ℕ) (nodes : Nodes) → levels_under n nodes None ≡ 0
no_levels zero nodes = refl
no_levels (suc n) nodes = refl

no_pages : (n : ℕ) (nodes : Nodes) → pages_under n nodes None ≡ 0
no_pages zero nodes = refl
no_pages (suc n) nodes = refl

pub high_ends : (nodes : Nodes) (root total : ℕ) (cursor : Option ℕ) (done : ℕ) → IsHigh nodes root total cursor done → cursor ≡ None → IsHeight nodes root (record { levels = done; pages = total })
high_ends nodes root total cursor done d c = record {
  levels = sym (none_more done (levels_under d.left nodes cursor) (ap (levels_under d.left nodes) c ∙ no_levels d.left nodes)) ∙ d.levels;
  pages = sym (none_more total (pages_under d.left nodes cursor) (ap (pages_under d.left nodes) c ∙ no_pages d.left nodes)) ∙ d.pages;
}

pub high_more : (nodes : Nodes) (root total level more : ℕ) (cursor : Option ℕ) (pid done : ℕ) (next : Option ℕ) → done < 18446744073709551615 → IsHigh nodes root total cursor done → cursor ≡ Some pid
    → level ≡ length_along page_numbers nodes (Some pid) → more ≡ total + level → next ≡ first_of (nodes pid) → IsHigh nodes root more next (done + 1)
high_more nodes root total level more cursor pid done next h d c l m e =
    let k = one_more done d.left h d.counts in record {
      left = k.0;
      counts = k.2;
      levels = shifted done (levels_under k.0 nodes next)
          ∙ ap (λ z. done + (levels_under k.0 nodes z + 1)) e
          ∙ ap (λ n. done + levels_under n nodes (Some pid)) (sym k.1)
          ∙ ap (λ z. done + levels_under d.left nodes z) (sym c)
          ∙ d.levels;
      pages = joined total level (pages_under k.0 nodes next) more m
          ∙ ap (λ z. total + (z + pages_under k.0 nodes next)) l
          ∙ ap (λ z. total + (length_along page_numbers nodes (Some pid) + pages_under k.0 nodes z)) e
          ∙ ap (λ n. total + pages_under n nodes (Some pid)) (sym k.1)
          ∙ ap (λ z. total + pages_under d.left nodes z) (sym c)
          ∙ d.pages;
    }
  where
    joined : (a b c m : ℕ) → m ≡ a + b → m + c ≡ a + (b + c)
    joined a b c m e = omega arith

-- ---- the pairs

abbrev pub nothing : Weight
nothing = record { pairs = 0; key_bytes = 0; value_bytes = 0 }

pub weighs_none : (before : Weight) → Weighs before [] before
weighs_none before = record { pairs_are = omega arith; keys = omega arith; values = omega arith }

joined : (a b c x y xy : ℕ) → b ≡ a + x → c ≡ b + y → xy ≡ x + y → c ≡ a + xy
joined a b c x y xy e f g = omega arith

pub weighs_then : (a b c : Weight) (xs ys : Map) → Weighs a xs b → Weighs b ys c → Weighs a (xs ++ ys) c
weighs_then a b c xs ys x y = record {
  pairs_are = joined a.pairs b.pairs c.pairs (length xs) (length ys) (length (xs ++ ys)) x.pairs_are y.pairs_are (length-append xs ys);
  keys = joined a.key_bytes b.key_bytes c.key_bytes (key_bytes_of xs) (key_bytes_of ys) (key_bytes_of (xs ++ ys)) x.keys y.keys (sum_by-append (λ (e : Key × Key). length e.0) xs ys);
  values = joined a.value_bytes b.value_bytes c.value_bytes (value_bytes_of xs) (value_bytes_of ys) (value_bytes_of (xs ++ ys)) x.values y.values (sum_by-append (λ (e : Key × Key). length e.1) xs ys);
}

pub weighs_pair : (before new : Weight) (key value : Key) (k v : ℕ) → k ≡ length key → v ≡ length value → new.pairs ≡ before.pairs + 1 → new.key_bytes ≡ before.key_bytes + k → new.value_bytes ≡ before.value_bytes + v → Weighs before ((key, value) ∷ []) new
weighs_pair before new key value k v is-key is-value pairs keys values = record { pairs_are = pairs; keys = keys ∙ one before.key_bytes k (length key) is-key; values = values ∙ one before.value_bytes v (length value) is-value }
  where
    one : (a b c : ℕ) → b ≡ c → a + b ≡ a + (0 + c)
    one a b c e = omega arith

pub weighs_more : (before w new : Weight) (pairs : Map) (i : ℕ) (e : Key × Key) → i < length pairs → e ≡ get_or pairs i e → Weighs before (take i pairs) w → Weighs w (e ∷ []) new → Weighs before (take (i + 1) pairs) new
weighs_more before w new pairs i e h at so more =
    subst (λ z. Weighs before z new) (ap (λ x. take i pairs ++ x ∷ []) at ∙ sym (take_more pairs i e h)) (weighs_then before w new (take i pairs) (e ∷ []) so more)

-- the pairs of some leaves were weighed, and the next leaf is the cursor's
pub record IsWeighed (nodes : Nodes) (first : ℕ) (weight : Weight) (cursor : Option ℕ) (done : ℕ) : Type 0 where
  pub all : Map
  pub along_so : IsAlong nodes first all cursor done
  pub weighs : Weighs nothing all weight

pub weighed_first : (nodes : Nodes) (first : ℕ) → IsWeighed nodes first nothing (Some first) 0
weighed_first nodes first = record { all = []; along_so = along_first nodes first [] refl; weighs = weighs_none nothing }

pub weighed_more : (nodes : Nodes) (first : ℕ) (weight more : Weight) (cursor : Option ℕ) (pid done : ℕ) (next : Option ℕ) → done < 18446744073709551615 → IsWeighed nodes first weight cursor done → cursor ≡ Some pid
    → Weighs weight (node_pairs (nodes pid)) more × (next ≡ next_of (nodes pid)) → IsWeighed nodes first more next (done + 1)
weighed_more nodes first weight more cursor pid done next h w c e = record {
  all = w.all ++ node_pairs (nodes pid);
  along_so = along_more nodes first w.all (node_pairs (nodes pid)) (w.all ++ node_pairs (nodes pid)) cursor pid done next h w.along_so c (refl, e.1) refl;
  weighs = weighs_then nothing weight more w.all (node_pairs (nodes pid)) w.weighs e.0;
}

-- the pairs of a page that was read
pub page_weighed : (page : Option Node) (before weight : Weight) (slice got : Map) (next : Option ℕ) → slice ≡ got → (got ≡ node_pairs page) × (next ≡ next_of page) → Weighs before slice weight → Weighs before (node_pairs page) weight × (next ≡ next_of page)
page_weighed page before weight slice got next same read w = (subst (λ z. Weighs before z weight) (same ∙ read.0) w, read.1)

pub weighed_ends : (nodes : Nodes) (first : ℕ) (weight : Weight) (cursor : Option ℕ) (done : ℕ) → IsWeighed nodes first weight cursor done → cursor ≡ None → Weighs nothing (along page_numbers nodes (Some first)) weight
weighed_ends nodes first weight cursor done w c = subst (λ z. Weighs nothing z weight) (along_ends nodes first w.all cursor done w.along_so c) w.weighs

pub weighed_under : (nodes : Nodes) (root leaf : ℕ) (r : Result Weight Error) → leaf ≡ first_leaf page_numbers nodes root (first_of (nodes root)) → IfOk r (Weighs nothing (along page_numbers nodes (Some leaf))) → IfOk r (Weighs nothing (pairs_under nodes root))
weighed_under nodes root leaf r e k = subst (λ l. IfOk r (Weighs nothing (along page_numbers nodes (Some l)))) e k

-- ---- a tree

module _ (s : State) (t : Key) where
  pub tree_is : (root : ℕ) (height : Height) (weight : Weight) → s.roots t ≡ Some root → IsHeight (nodes_of s) root height → Weighs nothing (pairs_under (nodes_of s) root) weight → IsTree s t height weight
  tree_is root height weight named h w = record {
    pages = h.pages ∙ ap (pages_under page_numbers (nodes_of s)) (sym named);
    levels = h.levels ∙ ap (levels_under page_numbers (nodes_of s)) (sym named);
    pairs = w.pairs_are ∙ zero_and (length under) ∙ ap length under_so;
    keys = w.keys ∙ zero_and (key_bytes_of under) ∙ ap key_bytes_of under_so;
    values = w.values ∙ zero_and (value_bytes_of under) ∙ ap value_bytes_of under_so;
  }
    where
      under : Map
      under = pairs_under (nodes_of s) root

      under_so : under ≡ tree_pairs s t
      under_so = ap (λ o. unwrap_or (option_map (pairs_under (nodes_of s)) o) []) (sym named)

  pub no_tree : None ≡ s.roots t → IsTree s t (record { levels = 0; pages = 0 }) nothing
  no_tree none = record {
    pages = sym (no_pages page_numbers (nodes_of s)) ∙ ap (pages_under page_numbers (nodes_of s)) none;
    levels = sym (no_levels page_numbers (nodes_of s)) ∙ ap (levels_under page_numbers (nodes_of s)) none;
    pairs = ap length pairs_so;
    keys = ap key_bytes_of pairs_so;
    values = ap value_bytes_of pairs_so;
  }
    where
      pairs_so : [] ≡ tree_pairs s t
      pairs_so = ap (λ o. unwrap_or (option_map (pairs_under (nodes_of s)) o) []) none

-- ---- all trees

pub no_trees : (s : State) → AreStats s [] (record { trees = 0; pages = 0; levels = 0; pairs = 0; key_bytes = 0; value_bytes = 0 })
no_trees s = record { trees = refl; pages = refl; levels = refl; pairs = refl; keys = refl; values = refl }

module _ (s : State) (ts : List (Key × ℕ)) (t : Key × ℕ) (old new : Stats) (height : Height) (weight : Weight) (so : AreStats s ts old) (tree : IsTree s t.0 height weight) (adds : Adds old height weight new) where
  added : (f : Key × ℕ → ℕ) (before more after : ℕ) → after ≡ before + more → before ≡ sum_by f ts → more ≡ f t → after ≡ sum_by f (ts ++ t ∷ [])
  added f before more after e b m = e ∙ ap (λ z. z + more) b ∙ ap (λ z. sum_by f ts + z) m ∙ sym (sum_by_push f ts t)

  stats_and : AreStats s (ts ++ t ∷ []) new
  stats_and = record {
    trees = adds.trees ∙ ap (λ z. z + 1) so.trees ∙ sym (length-append ts (t ∷ []));
    pages = added (λ t. tree_pages s t.0) old.pages height.pages new.pages adds.pages so.pages tree.pages;
    levels = adds.levels ∙ ap (λ z. max z height.levels) so.levels ∙ ap (λ z. max (fold (λ most (t : Key × ℕ). max most (tree_levels s t.0)) 0 ts) z) tree.levels ∙ sym (fold-append (λ most (t : Key × ℕ). max most (tree_levels s t.0)) 0 ts (t ∷ []));
    pairs = added (λ t. length (tree_pairs s t.0)) old.pairs weight.pairs new.pairs adds.pairs so.pairs tree.pairs;
    keys = added (λ t. key_bytes_of (tree_pairs s t.0)) old.key_bytes weight.key_bytes new.key_bytes adds.keys so.keys tree.keys;
    values = added (λ t. value_bytes_of (tree_pairs s t.0)) old.value_bytes weight.value_bytes new.value_bytes adds.values so.values tree.values;
  }

pub stats_more : (s : State) (trees : List (Key × ℕ)) (i : ℕ) (t : Key × ℕ) (old new : Stats) (height : Height) (weight : Weight) → i < length trees → t ≡ get_or trees i t → AreStats s (take i trees) old → IsTree s t.0 height weight → Adds old height weight new → AreStats s (take (i + 1) trees) new
stats_more s trees i t old new height weight h at so tree adds =
    subst (λ z. AreStats s z new) (ap (λ x. take i trees ++ x ∷ []) at ∙ sym (take_more trees i t h)) (stats_and s (take i trees) t old new height weight so tree adds)
