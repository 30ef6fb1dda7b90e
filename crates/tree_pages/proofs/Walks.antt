-- Walks over pages that are no longer than there are page numbers.
use Rattle.std.proofs.Common.{◌≡◌, ℕ, zero, suc, ◌+◌, ◌<◌, ◌≤◌, List, [], ◌∷◌, ◌++◌, Option, Some, None, refl, sym, ap, ◌∙◌, arith, append_assoc, append-nil}
use Rattle.sled_nodes.specs.Order.{Key}
use Rattle.sled_store.specs.State.{Nodes}
use Rattle.tree_laws.specs.Forest.{node_pairs}
use Rattle.tree_laws.specs.Contents.{first_of, next_of, first_leaf, along, page_numbers}
use Rattle.tree_pages.specs.theory.Drops.{first_pages_down}

-- so many steps are left
pub record Left (done left : ℕ) : Type 0 where
  pub is : left + done ≡ page_numbers

numbers_are : page_numbers ≡ 18446744073709551616
unfolding page_numbers
numbers_are = refl

pub at_first : Left 0 page_numbers
at_first = record { is = omega arith }

-- below the greatest number there is one step more
pub one_more : (done left : ℕ) → done < 18446744073709551615 → Left done left → (k : ℕ) × (left ≡ suc k) × Left (done + 1) k
one_more done zero h l = let e = numbers_are in let f = l.is in absurd (omega arith)
one_more done (suc k) h l = (k, refl, record { is = let f = l.is in omega arith })

pub last_one : (done left : ℕ) → 18446744073709551615 ≤ done → done ≤ 18446744073709551615 → Left done left → left ≡ 1
last_one done left h g l = let e = numbers_are in let f = l.is in omega arith

-- a walk down from a root has come to this page
pub record IsDown (nodes : Nodes) (root pid done : ℕ) : Type 0 where
  pub left : ℕ
  pub counts : Left done left
  pub is : first_leaf left nodes pid (first_of (nodes pid)) ≡ first_leaf page_numbers nodes root (first_of (nodes root))

pub down_first : (nodes : Nodes) (root : ℕ) → IsDown nodes root root 0
down_first nodes root = record { left = page_numbers; counts = at_first; is = refl }

stops : (n : ℕ) (nodes : Nodes) (p : ℕ) → first_leaf n nodes p None ≡ p
stops zero nodes p = refl
stops (suc n) nodes p = refl

pub down_ends : (nodes : Nodes) (root pid done : ℕ) → IsDown nodes root pid done → None ≡ first_of (nodes pid) → pid ≡ first_leaf page_numbers nodes root (first_of (nodes root))
down_ends nodes root pid done d e = sym (stops d.left nodes pid) ∙ ap (first_leaf d.left nodes pid) e ∙ d.is

pub down_more : (nodes : Nodes) (root pid done child : ℕ) → done < 18446744073709551615 → IsDown nodes root pid done → Some child ≡ first_of (nodes pid) → IsDown nodes root child (done + 1)
down_more nodes root pid done child h d e =
    let k = one_more done d.left h d.counts in record {
      left = k.0;
      counts = k.2;
      is = ap (first_leaf (suc k.0) nodes pid) e ∙ ap (λ n. first_leaf n nodes pid (first_of (nodes pid))) (sym k.1) ∙ d.is;
    }

pub down_last : (nodes : Nodes) (root pid done child : ℕ) → 18446744073709551615 ≤ done → done ≤ 18446744073709551615 → IsDown nodes root pid done → Some child ≡ first_of (nodes pid) → child ≡ first_leaf page_numbers nodes root (first_of (nodes root))
down_last nodes root pid done child h g d e =
    ap (first_leaf 1 nodes pid) e ∙ ap (λ n. first_leaf n nodes pid (first_of (nodes pid))) (sym (last_one done d.left h g d.counts)) ∙ d.is

-- a walk along from a leaf has these pairs, and goes on at the cursor
pub record IsAlong (nodes : Nodes) (first : ℕ) (all : List (Key × Key)) (cursor : Option ℕ) (done : ℕ) : Type 0 where
  pub left : ℕ
  pub counts : Left done left
  pub is : all ++ along left nodes cursor ≡ along page_numbers nodes (Some first)

pub along_first : (nodes : Nodes) (first : ℕ) (all : List (Key × Key)) → all ≡ [] → IsAlong nodes first all (Some first) 0
along_first nodes first all e = record { left = page_numbers; counts = at_first; is = ap (λ r. r ++ along page_numbers nodes (Some first)) e }

nothing : (n : ℕ) (nodes : Nodes) → along n nodes None ≡ []
nothing zero nodes = refl
nothing (suc n) nodes = refl

pub along_ends : (nodes : Nodes) (first : ℕ) (all : List (Key × Key)) (cursor : Option ℕ) (done : ℕ) → IsAlong nodes first all cursor done → cursor ≡ None → all ≡ along page_numbers nodes (Some first)
along_ends nodes first all cursor done d c = sym (append-nil all) ∙ ap (λ r. all ++ r) (sym (nothing d.left nodes)) ∙ ap (λ r. all ++ along d.left nodes r) (sym c) ∙ d.is

pub along_more : (nodes : Nodes) (first : ℕ) (all got more : List (Key × Key)) (cursor : Option ℕ) (pid done : ℕ) (next : Option ℕ) → done < 18446744073709551615 → IsAlong nodes first all cursor done → cursor ≡ Some pid
    → (got ≡ node_pairs (nodes pid)) × (next ≡ next_of (nodes pid)) → more ≡ all ++ got → IsAlong nodes first more next (done + 1)
along_more nodes first all got more cursor pid done next h d c e m =
    let k = one_more done d.left h d.counts in record {
      left = k.0;
      counts = k.2;
      is = ap (λ r. r ++ along k.0 nodes next) m
          ∙ append_assoc all got (along k.0 nodes next)
          ∙ ap (λ r. all ++ (r ++ along k.0 nodes next)) e.0
          ∙ ap (λ r. all ++ (node_pairs (nodes pid) ++ along k.0 nodes r)) e.1
          ∙ ap (λ n. all ++ along n nodes (Some pid)) (sym k.1)
          ∙ ap (λ r. all ++ along d.left nodes r) (sym c)
          ∙ d.is;
    }

pub along_last : (nodes : Nodes) (first : ℕ) (all got more : List (Key × Key)) (cursor : Option ℕ) (pid done : ℕ) → 18446744073709551615 ≤ done → done ≤ 18446744073709551615 → IsAlong nodes first all cursor done → cursor ≡ Some pid
    → got ≡ node_pairs (nodes pid) → more ≡ all ++ got → more ≡ along page_numbers nodes (Some first)
along_last nodes first all got more cursor pid done h g d c e m =
    m ∙ ap (λ r. all ++ r) (e ∙ sym (append-nil (node_pairs (nodes pid)))) ∙ ap (λ n. all ++ along n nodes (Some pid)) (sym (last_one done d.left h g d.counts)) ∙ ap (λ r. all ++ along d.left nodes r) (sym c) ∙ d.is

-- a walk down from a root has noted the first page of each level that it came through, and goes on at the cursor
pub record HasNoted (nodes : Nodes) (root : ℕ) (firsts : List ℕ) (cursor : Option ℕ) (done : ℕ) : Type 0 where
  pub left : ℕ
  pub counts : Left done left
  pub is : firsts ++ first_pages_down left nodes cursor ≡ first_pages_down page_numbers nodes (Some root)

pub noted_first : (nodes : Nodes) (root : ℕ) (firsts : List ℕ) → firsts ≡ [] → HasNoted nodes root firsts (Some root) 0
noted_first nodes root firsts e = record { left = page_numbers; counts = at_first; is = ap (λ r. r ++ first_pages_down page_numbers nodes (Some root)) e }

pub no_level : (n : ℕ) (nodes : Nodes) → first_pages_down n nodes None ≡ []
no_level zero nodes = refl
no_level (suc n) nodes = refl

pub noted_ends : (nodes : Nodes) (root : ℕ) (firsts : List ℕ) (cursor : Option ℕ) (done : ℕ) → HasNoted nodes root firsts cursor done → cursor ≡ None → firsts ≡ first_pages_down page_numbers nodes (Some root)
noted_ends nodes root firsts cursor done d c = sym (append-nil firsts) ∙ ap (λ r. firsts ++ r) (sym (no_level d.left nodes)) ∙ ap (λ r. firsts ++ first_pages_down d.left nodes r) (sym c) ∙ d.is

pub noted_more : (nodes : Nodes) (root : ℕ) (firsts more : List ℕ) (cursor : Option ℕ) (pid done : ℕ) (next : Option ℕ) → done < 18446744073709551615 → HasNoted nodes root firsts cursor done → cursor ≡ Some pid
    → next ≡ first_of (nodes pid) → more ≡ firsts ++ pid ∷ [] → HasNoted nodes root more next (done + 1)
noted_more nodes root firsts more cursor pid done next h d c e m =
    let k = one_more done d.left h d.counts in record {
      left = k.0;
      counts = k.2;
      is = ap (λ r. r ++ first_pages_down k.0 nodes next) m
          ∙ append_assoc firsts (pid ∷ []) (first_pages_down k.0 nodes next)
          ∙ ap (λ r. firsts ++ (pid ∷ first_pages_down k.0 nodes r)) e
          ∙ ap (λ n. firsts ++ first_pages_down n nodes (Some pid)) (sym k.1)
          ∙ ap (λ r. firsts ++ first_pages_down d.left nodes r) (sym c)
          ∙ d.is;
    }

pub noted_last : (nodes : Nodes) (root : ℕ) (firsts more : List ℕ) (cursor : Option ℕ) (pid done : ℕ) → 18446744073709551615 ≤ done → done ≤ 18446744073709551615 → HasNoted nodes root firsts cursor done → cursor ≡ Some pid
    → more ≡ firsts ++ pid ∷ [] → more ≡ first_pages_down page_numbers nodes (Some root)
noted_last nodes root firsts more cursor pid done h g d c m =
    m ∙ ap (λ n. firsts ++ first_pages_down n nodes (Some pid)) (sym (last_one done d.left h g d.counts)) ∙ ap (λ r. firsts ++ first_pages_down d.left nodes r) (sym c) ∙ d.is
