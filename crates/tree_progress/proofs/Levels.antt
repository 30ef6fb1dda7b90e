-- What a change of some pages of a level, or of the level above it, does to its weight.
use Rattle.std.proofs.Common.{◌≡◌, ◌≢◌, ℕ, ◌+◌, ◌≤◌, flat_map, sum_by, List, [], ◌∷◌, ◌++◌, sym, refl, ap, ◌∙◌, inl, inr, arith}
use Rattle.std.proofs.lemmas.Grind.{flat_map-append}
use Rattle.std.proofs.lemmas.List.Sums.{sum_by-append}
use Rattle.sled_store.specs.In.{In}
use Rattle.sled_store.specs.State.{Nodes}
use Rattle.tree_progress.specs.Weights.{pointer_weight, received_weight}
use Rattle.tree_progress.specs.ToDo.{is_in, led_to, merges, pointed, children, weight_of, first_weight_of, page_weight, chain_weight, level_weight}
use Rattle.tree_progress.proofs.Sums.{chained, chained_change, chained_same}

chain_is : (nodes : Nodes) (above ps : List ℕ) → chain_weight nodes above ps ≡ chained (λ q. first_weight_of (nodes q)) (page_weight nodes above) ps
chain_is nodes above [] = refl
chain_is nodes above (p ∷ ps) = refl

-- what a merging child weighs more, where it is in no chain
abbrev pub received : List ℕ → ℕ → ℕ
received chain c = received_weight (is_in c chain)

pub flat_same : (f g : ℕ → List ℕ) (ps : List ℕ) → ((q : ℕ) → In q ps → g q ≡ f q) → flat_map g ps ≡ flat_map f ps
flat_same f g [] same = refl
flat_same f g (p ∷ ps) same = let a = same p (inl refl) in let b = flat_same f g ps (λ q i. same q (inr i)) in cc

-- a level of the same pages leads to the same pages
pub children_same : (nodes new : Nodes) (above : List ℕ) → ((q : ℕ) → In q above → new q ≡ nodes q) → children new above ≡ children nodes above
children_same nodes new above same = flat_same (λ q. merges (nodes q)) (λ q. merges (new q)) above (λ q i. ap merges (same q i))

pub pointed_same : (nodes new : Nodes) (above : List ℕ) → ((q : ℕ) → In q above → new q ≡ nodes q) → pointed new above ≡ pointed nodes above
pointed_same nodes new above same = flat_same (λ q. led_to (nodes q)) (λ q. led_to (new q)) above (λ q i. ap led_to (same q i))

-- a page that is the same, and is found alike below the level above, weighs the same
pub page_same : (nodes new : Nodes) (above rs : List ℕ) (q : ℕ) → new q ≡ nodes q → is_in q (children new rs) ≡ is_in q (children nodes above) → is_in q (pointed new rs) ≡ is_in q (pointed nodes above) → page_weight new rs q ≡ page_weight nodes above q
page_same nodes new above rs q a b c =
    ap (λ v. weight_of v (new q) + pointer_weight (is_in q (pointed new rs))) b ∙ ap (λ o. weight_of (is_in q (children nodes above)) o + pointer_weight (is_in q (pointed new rs))) a
    ∙ ap (λ v. weight_of (is_in q (children nodes above)) (nodes q) + pointer_weight v) c

-- .. below a level of the same pages
pub page_below : (nodes new : Nodes) (above : List ℕ) (q : ℕ) → ((q : ℕ) → In q above → new q ≡ nodes q) → new q ≡ nodes q → page_weight new above q ≡ page_weight nodes above q
page_below nodes new above q same e = page_same nodes new above above q e (ap (is_in q) (children_same nodes new above same)) (ap (is_in q) (pointed_same nodes new above same))

-- what a page weighs as the first and as another
pub record IsAlike (nodes new : Nodes) (above rs : List ℕ) (q : ℕ) : Type 0 where
  pub first : first_weight_of (new q) ≡ first_weight_of (nodes q)
  pub other : page_weight new rs q ≡ page_weight nodes above q

-- In the middle of a level stands the page p, and behind it `gone` become `added`; the pages before and behind these weigh as before
pub level_change : (nodes new : Nodes) (above rs xs gone added ys : List ℕ) (p d e r s : ℕ)
    → ((q : ℕ) → In q xs → IsAlike nodes new above rs q) → ((q : ℕ) → In q ys → IsAlike nodes new above rs q)
    → (xs ≡ [] → first_weight_of (new p) + sum_by (page_weight new rs) added + d ≤ first_weight_of (nodes p) + sum_by (page_weight nodes above) gone + e)
    → (xs ≢ [] → page_weight new rs p + sum_by (page_weight new rs) added + d ≤ page_weight nodes above p + sum_by (page_weight nodes above) gone + e)
    → sum_by (received (xs ++ (p ∷ (added ++ ys)))) (children new rs) + r ≤ sum_by (received (xs ++ (p ∷ (gone ++ ys)))) (children nodes above) + s
    → level_weight new rs (xs ++ (p ∷ (added ++ ys))) + (d + r) ≤ level_weight nodes above (xs ++ (p ∷ (gone ++ ys))) + (e + s)
level_change nodes new above rs xs gone added ys p d e r s early late first other kids =
    let a = chain_is new rs (xs ++ (p ∷ (added ++ ys))) in
    let b = chain_is nodes above (xs ++ (p ∷ (gone ++ ys))) in
    let c = chained_change (λ q. first_weight_of (nodes q)) (λ q. first_weight_of (new q)) (page_weight nodes above) (page_weight new rs) xs gone added ys p d e (λ q i. let k = early q i in (k.first, k.other)) (λ q i. (late q i).other) first other in
    joined _ _ _ _ _ _ a b c kids
  where
    joined : (x y u v i j : ℕ) → x ≡ u → y ≡ v → u + d ≤ v + e → i + r ≤ j + s → (x + i) + (d + r) ≤ (y + j) + (e + s)
    joined x y u v i j a b c k = omega arith

-- the pages of a level weigh as before
pub level_same : (nodes new : Nodes) (above rs chain : List ℕ) (r s : ℕ) → ((q : ℕ) → In q chain → IsAlike nodes new above rs q)
    → sum_by (received chain) (children new rs) + r ≤ sum_by (received chain) (children nodes above) + s
    → level_weight new rs chain + r ≤ level_weight nodes above chain + s
level_same nodes new above rs chain r s same kids =
    let a = chain_is new rs chain in
    let b = chain_is nodes above chain in
    let c = chained_same (λ q. first_weight_of (nodes q)) (λ q. first_weight_of (new q)) (page_weight nodes above) (page_weight new rs) chain (λ q i. (same q i).first) (λ q i. (same q i).other) in
    joined _ _ _ _ _ _ a b c kids
  where
    joined : (x y u v i j : ℕ) → x ≡ u → y ≡ v → u ≡ v → i + r ≤ j + s → (x + i) + r ≤ (y + j) + s
    joined x y u v i j a b c k = omega arith

-- nothing of a level changes, nor of the one above it
pub level_frame : (nodes new : Nodes) (above chain : List ℕ) → ((q : ℕ) → In q above → new q ≡ nodes q) → ((q : ℕ) → In q chain → new q ≡ nodes q) → level_weight new above chain ≡ level_weight nodes above chain
level_frame nodes new above chain up same =
    let a = chain_is new above chain in
    let b = chain_is nodes above chain in
    let c = chained_same (λ q. first_weight_of (nodes q)) (λ q. first_weight_of (new q)) (page_weight nodes above) (page_weight new above) chain (λ q i. ap first_weight_of (same q i)) (λ q i. page_below nodes new above q up (same q i)) in
    ap (λ z. z + sum_by (received chain) (children new above)) (a ∙ c ∙ sym b) ∙ ap (λ z. chain_weight nodes above chain + sum_by (received chain) z) (children_same nodes new above up)

-- the merging children of a level, in the middle of which pages change
pub children_change : (nodes new : Nodes) (F : ℕ → ℕ) (xs ms ns ys : List ℕ) (d e : ℕ) → ((q : ℕ) → In q xs → new q ≡ nodes q) → ((q : ℕ) → In q ys → new q ≡ nodes q)
    → sum_by F (children new ns) + d ≤ sum_by F (children nodes ms) + e → sum_by F (children new (xs ++ (ns ++ ys))) + d ≤ sum_by F (children nodes (xs ++ (ms ++ ys))) + e
children_change nodes new F xs ms ns ys d e early late middle =
    joined _ _ _ _ _ _ _ _ (three new ns) (three nodes ms) (ap (sum_by F) (children_same nodes new xs early)) (ap (sum_by F) (children_same nodes new ys late)) middle
  where
    three : (nodes : Nodes) (ms : List ℕ) → sum_by F (children nodes (xs ++ (ms ++ ys))) ≡ sum_by F (children nodes xs) + (sum_by F (children nodes ms) + sum_by F (children nodes ys))
    three nodes ms =
        let f : ℕ → List ℕ = λ q. merges (nodes q) in
        ap (sum_by F) (flat_map-append f xs (ms ++ ys) ∙ ap (λ z. flat_map f xs ++ z) (flat_map-append f ms ys)) ∙ sum_by-append F (flat_map f xs) (flat_map f ms ++ flat_map f ys)
        ∙ ap (λ z. sum_by F (flat_map f xs) + z) (sum_by-append F (flat_map f ms) (flat_map f ys))

    joined : (x y i j k l m n : ℕ) → x ≡ i + (k + m) → y ≡ j + (l + n) → i ≡ j → m ≡ n → k + d ≤ l + e → x + d ≤ y + e
    joined x y i j k l m n a b c g h = omega arith
