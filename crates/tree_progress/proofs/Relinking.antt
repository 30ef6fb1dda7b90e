-- A page of a level comes or goes: the levels of the tree, and what the pages below it are found as.
use Rattle.std.proofs.Common.{◌≡◌, ◌≢◌, ℕ, suc, ◌+◌, ◌≤◌, flat_map, sum_by, List, [], ◌∷◌, ◌++◌, length, Option, Some, None, option_to_list, sym, refl, ap, ◌∙◌, subst, inl, inr, arith}
use Rattle.std.proofs.lemmas.Grind.{flat_map-append}
use Rattle.std.proofs.lemmas.List.Sums.{sum_by-append}
use Rattle.sled_store.specs.In.{In}
use Rattle.sled_store.specs.State.{Nodes}
use Rattle.sled_nodes.specs.declared.node.Node.{Node}
use Rattle.tree_laws.specs.Forest.{head}
use Rattle.tree_laws.specs.Contents.{page_numbers, next_of, first_of}
use Rattle.tree_laws.proofs.Runs.{In-left, In-right, In_cases}
use Rattle.tree_progress.specs.ToDo.{is_in, led_to, merges, pointed, children}
use Rattle.tree_progress.proofs.Among.{IsChildOf, in_alike, child_by}
use Rattle.tree_progress.proofs.Sums.{sum_same}
use Rattle.tree_progress.proofs.Levels.{flat_same}
use Rattle.tree_progress.proofs.Shapes.{Leads, IsShape}

-- levels that begin and lead down as before are levels, where each goes along `next` still
pub shape_relinked : (nodes new : Nodes) (chains after : ℕ → List ℕ) (root height : ℕ) → IsShape nodes chains root height → ((h : ℕ) → head (after h) ≡ head (chains h)) → ((q : ℕ) → first_of (new q) ≡ first_of (nodes q))
    → ((h : ℕ) → h ≤ height → Leads new (head (after h)) (after h)) → ((h : ℕ) → h ≤ height → length (after h) ≤ page_numbers) → IsShape new after root height
shape_relinked nodes new chains after root height s heads firsts leads few = record {
  begins = λ h l. let b = s.begins h l in (b.0, heads h ∙ b.1);
  leads = leads;
  down = λ h p l e. firsts p ∙ s.down h p l (sym (heads (suc h)) ∙ e) ∙ sym (heads h);
  bottom = λ p e. firsts p ∙ s.bottom p (sym (heads 0) ∙ e);
  few = few;
  low = s.low;
  top = heads height ∙ s.top;
  alone = none (after (suc height)) (heads (suc height) ∙ ap head s.alone);
}
  where
    none : (ps : List ℕ) → head ps ≡ None → ps ≡ []
    none [] e = refl
    none (p ∷ ps) e = cc

-- where a chain begins hangs on no page behind one of it
pub head_front : (xs ys : List ℕ) (p : ℕ) → head (xs ++ (p ∷ ys)) ≡ head (xs ++ (p ∷ []))
head_front [] ys p = refl
head_front (x ∷ xs) ys p = refl

-- a chain goes on, where the part behind some pages does
pub leads_behind : (nodes new : Nodes) (xs ps rs : List ℕ) (from : Option ℕ) → ((q : ℕ) → In q xs → next_of (new q) ≡ next_of (nodes q)) → ((mid : Option ℕ) → Leads nodes mid ps → Leads new mid rs) → Leads nodes from (xs ++ ps) → Leads new from (xs ++ rs)
leads_behind nodes new [] ps rs from same more l = more from l
leads_behind nodes new (x ∷ xs) ps rs from same more l = (l.0, leads_behind nodes new xs ps rs _ (λ q i. same q (inr i)) more (subst (λ o. Leads nodes o (xs ++ ps)) (sym (same x (inl refl))) l.1))

-- what is found along a list, in the middle of which pages change
middle_alike : (f g : ℕ → List ℕ) (xs ms ns ys : List ℕ) (q : ℕ) → ((z : ℕ) → In z xs → g z ≡ f z) → ((z : ℕ) → In z ys → g z ≡ f z) → (In q (flat_map g ns) → In q (flat_map f ms)) → (In q (flat_map f ms) → In q (flat_map g ns))
    → is_in q (flat_map g (xs ++ (ns ++ ys))) ≡ is_in q (flat_map f (xs ++ (ms ++ ys)))
middle_alike f g xs ms ns ys q early late was now =
    ap (is_in q) (three g ns ∙ ap (λ z. z ++ (flat_map g ns ++ flat_map g ys)) (flat_same f g xs early) ∙ ap (λ z. flat_map f xs ++ (flat_map g ns ++ z)) (flat_same f g ys late))
    ∙ in_alike q (flat_map f xs ++ (flat_map f ms ++ flat_map f ys)) (flat_map f xs ++ (flat_map g ns ++ flat_map f ys)) (turned (flat_map g ns) (flat_map f ms) was) (turned (flat_map f ms) (flat_map g ns) now)
    ∙ ap (is_in q) (sym (three f ms))
  where
    three : (f : ℕ → List ℕ) (ms : List ℕ) → flat_map f (xs ++ (ms ++ ys)) ≡ flat_map f xs ++ (flat_map f ms ++ flat_map f ys)
    three f ms = flat_map-append f xs (ms ++ ys) ∙ ap (λ z. flat_map f xs ++ z) (flat_map-append f ms ys)

    turned : (ps rs : List ℕ) → (In q ps → In q rs) → In q (flat_map f xs ++ (ps ++ flat_map f ys)) → In q (flat_map f xs ++ (rs ++ flat_map f ys))
    turned ps rs on i = elim (In_cases (flat_map f xs) _ q i) [
      | inl a ↦ In-left (flat_map f xs) _ q a
      | inr b ↦ elim (In_cases ps (flat_map f ys) q b) [
        | inl c ↦ In-right (flat_map f xs) _ q (In-left rs _ q (on c))
        | inr c ↦ In-right (flat_map f xs) _ q (In-right rs _ q c)
      ]
    ]

pub pointed_middle : (nodes new : Nodes) (xs ms ns ys : List ℕ) (q : ℕ) → ((z : ℕ) → In z xs → new z ≡ nodes z) → ((z : ℕ) → In z ys → new z ≡ nodes z) → (In q (pointed new ns) → In q (pointed nodes ms)) → (In q (pointed nodes ms) → In q (pointed new ns))
    → is_in q (pointed new (xs ++ (ns ++ ys))) ≡ is_in q (pointed nodes (xs ++ (ms ++ ys)))
pointed_middle nodes new xs ms ns ys q early late was now = middle_alike (λ z. led_to (nodes z)) (λ z. led_to (new z)) xs ms ns ys q (λ z i. ap led_to (early z i)) (λ z i. ap led_to (late z i)) was now

pub children_middle : (nodes new : Nodes) (xs ms ns ys : List ℕ) (q : ℕ) → ((z : ℕ) → In z xs → new z ≡ nodes z) → ((z : ℕ) → In z ys → new z ≡ nodes z) → (In q (children new ns) → In q (children nodes ms)) → (In q (children nodes ms) → In q (children new ns))
    → is_in q (children new (xs ++ (ns ++ ys))) ≡ is_in q (children nodes (xs ++ (ms ++ ys)))
children_middle nodes new xs ms ns ys q early late was now = middle_alike (λ z. merges (nodes z)) (λ z. merges (new z)) xs ms ns ys q (λ z i. ap merges (early z i)) (λ z i. ap merges (late z i)) was now

-- One page of a level has c for its merging child, and no other: of the level's children c alone weighs otherwise
pub child_change : (nodes : Nodes) (F G : ℕ → ℕ) (xs ys : List ℕ) (p c r v : ℕ) (n : Node) → nodes p ≡ Some n → n.merging_child ≡ Some c → (IsChildOf nodes xs c → ⊥) → (IsChildOf nodes ys c → ⊥) → ((z : ℕ) → z ≢ c → G z ≡ F z) → G c + r ≤ F c + v
    → sum_by G (children nodes (xs ++ (p ∷ ys))) + r ≤ sum_by F (children nodes (xs ++ (p ∷ ys))) + v
child_change nodes F G xs ys p c r v n live has early late same at =
    joined _ _ _ _ _ _ _ _ (three G) (three F) (part xs early) (part ys late) (ap (sum_by G) here) (ap (sum_by F) here) at
  where
    here : merges (nodes p) ≡ c ∷ []
    here = ap merges live ∙ ap option_to_list has

    part : (zs : List ℕ) → (IsChildOf nodes zs c → ⊥) → sum_by G (children nodes zs) ≡ sum_by F (children nodes zs)
    part zs none = sum_same F G (children nodes zs) (λ z i. same z (λ e. none (child_by nodes zs c (subst (λ q. In q (children nodes zs)) e i))))

    three : (K : ℕ → ℕ) → sum_by K (children nodes (xs ++ (p ∷ ys))) ≡ sum_by K (children nodes xs) + (sum_by K (merges (nodes p)) + sum_by K (children nodes ys))
    three K = ap (sum_by K) (flat_map-append (λ z. merges (nodes z)) xs (p ∷ ys)) ∙ sum_by-append K (children nodes xs) _ ∙ ap (λ z. sum_by K (children nodes xs) + z) (sum_by-append K (merges (nodes p)) (children nodes ys))

    joined : (x y i j m u k l : ℕ) → x ≡ i + (m + k) → y ≡ j + (u + l) → i ≡ j → k ≡ l → m ≡ 0 + G c → u ≡ 0 + F c → G c + r ≤ F c + v → x + r ≤ y + v
    joined x y i j m u k l a b c' d e g h = omega arith
