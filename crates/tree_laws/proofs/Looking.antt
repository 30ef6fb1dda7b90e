-- The reading walk, which repairs nothing, and how many pages it may look at.
use Rattle.std.proofs.Common.{◌≡◌, ◌≢◌, ℕ, zero, suc, ◌+◌, ◌<◌, ◌≤◌, Bool, true, false, List, [], ◌∷◌, ◌++◌, length, length-append, Option, Some, None, MatchOption, sym, refl, ap, ◌∙◌, subst, inl, inr, append_assoc, nat_eq, arith}
use Rattle.std.specs.List.{list_any}
use Rattle.std.specs.declared.ops.Bound.{Bound}
use Rattle.sled_nodes.proofs.Basics.{none_some, some_is, true_false}
use Rattle.sled_nodes.specs.Among.{IsPointer, is_up_to}
use Rattle.sled_store.specs.In.{In}
use Rattle.sled_nodes.specs.Node.{pointers}
use Rattle.sled_nodes.specs.Order.{Key}
use Rattle.sled_store.specs.State.{Nodes, nodes_of}
use Rattle.sled_nodes.specs.declared.node.Node.{Node}
use Rattle.sled_nodes.specs.declared.node.Data.TheVariants.{Leaf, Index}
use Rattle.tree_laws.specs.Forest.{Tree, Forest, Place, place, head, first_child, Holds, Run, WellFormed, later}
use Rattle.tree_laws.specs.Contents.{page_numbers, next_of, first_of}
use Rattle.tree_laws.specs.Paths.{NeedsNoRepair, CleanFrom, length_along, pages_under, pages_below, IsAhead}
use Rattle.tree_laws.specs.theory.PathLaws.{PointerInLaw, NextInLaw, AheadLaw, CleanStepLaw, LastPointerLaw}
use Rattle.tree_laws.specs.theory.Laws.{PagesLaw, CleanLaw}
use Rattle.tree_laws.proofs.Runs.{In_split, In-right}
use Rattle.std.proofs.lemmas.Bool.{or_parts}
use Rattle.tree_laws.proofs.Replace.{head_in, not_both}
use Rattle.tree_laws.proofs.Cover.{chain_run, parted}
use Rattle.tree_laws.proofs.Inside.{behind}
use Rattle.tree_laws.proofs.Reading.{child_of}
use Rattle.tree_laws.proofs.Cover.{holds_at}
use Rattle.tree_laws.proofs.Known.{root_in, leaf_in, index_high}
use Rattle.tree_laws.proofs.Fuel.{nodes_below, chain_few, levels_few, leaf_first}

module _ {nodes : Nodes} {roots : Tree → Option ℕ} {w : Forest} (f : WellFormed nodes roots w) where
  -- where a pointer that is not to the merging child leads stands in the chain below
  pub pointer_in : (t : Tree) (h p : ℕ) (n : Node) (k : Key) (c : ℕ) → In p (w.chain (place t (suc h))) → nodes p ≡ Some n → In (k, c) (pointers n.content) → n.merging_child ≢ Some c
      → (d : Node) × In c (w.chain (place t h)) × (nodes c ≡ Some d) × (d.lo ≡ k)
  pointer_in t h p n k c i live j off =
      let a = f.pointer t h p n i live k c j in
      let b = f.page (place t h) c a.homed in
      (a.node, elim b.1.stands [ inl e ↦ e | inr m ↦ absurd (off (a.merged (subst (λ (z : Node). z.merging ≡ true) (some_is (sym b.1.live ∙ a.live)) m))) ], a.live, a.key)

  -- the first pointer is never to the merging child
  pub first_not_child : (t : Tree) (h p : ℕ) (n : Node) → head (w.chain (place t (suc h))) ≡ Some p → nodes p ≡ Some n → (c : ℕ) → first_child (pointers n.content) ≡ Some c → head (w.chain (place t h)) ≡ Some c
  first_not_child t h p n e live c is = f.down t h p n e live ∙ is

  -- where the next page leads stands in the chain too, and begins where this one ends
  pub next_in : (x : Place) (p q : ℕ) (n : Node) → In p (w.chain x) → nodes p ≡ Some n → n.next ≡ Some q → (d : Node) × In q (w.chain x) × (nodes q ≡ Some d) × (d.lo ≡ n.hi)
  next_in x p q n i live next =
      let s = In_split (w.chain x) p i in
      go s.0 s.1 s.2 (parted f x p n s.0 s.1 s.2 live).2
    where
      go : (xs zs : List ℕ) → w.chain x ≡ xs ++ (p ∷ zs) → Run nodes zs n.next n.hi None [] → (d : Node) × In q (w.chain x) × (nodes q ≡ Some d) × (d.lo ≡ n.hi)
      go xs [] e r = none_some (sym r.0 ∙ next)
      go xs (z ∷ zs) e r =
          let same : z ≡ q = some_is (sym r.1.here ∙ next) in
          (r.0, subst (λ l. In q l) (sym e) (In-right xs (p ∷ (z ∷ zs)) q (inr (inl (sym same)))), ap nodes (sym same) ∙ r.1.live, sym r.1.lo_is)

  -- a page with an upper bound has a next page
  pub next_some : (x : Place) (p : ℕ) (n : Node) → In p (w.chain x) → nodes p ≡ Some n → n.hi ≢ [] → (q : ℕ) × (n.next ≡ Some q)
  next_some x p n i live more = elim (behind f x p n i live) [ inl e ↦ absurd (more e) | inr a ↦ (a.0, a.5) ]

  -- the pages ahead of a page of a chain
  pub ahead_at : (t : Tree) (h p : ℕ) → In p (w.chain (place t h)) → (n : ℕ) × IsAhead w t h p n
  ahead_at t h p i =
      let s = In_split (w.chain (place t h)) p i in
      (length (p ∷ s.1) + pages_below w t h, record { before = s.0; behind = s.1; is = s.2; count = refl })

  -- they are no more than the pages of the level and below it
  pub ahead_few : (t : Tree) (h p n : ℕ) → IsAhead w t h p n → n ≤ pages_below w t (suc h)
  ahead_few t h p n a =
      let l : length (w.chain (place t h)) ≡ length a.before + length (p ∷ a.behind) = ap length a.is ∙ length-append a.before (p ∷ a.behind) in
      go n (length (w.chain (place t h))) (length a.before) (length (p ∷ a.behind)) (pages_below w t h) l a.count
    where
      go : (n l b r low : ℕ) → l ≡ b + r → n ≡ r + low → n ≤ l + low
      go n l b r low e g = omega arith

  -- a step to the next page leaves one page less ahead
  pub ahead_next : (t : Tree) (h p q n : ℕ) (d : Node) → IsAhead w t h p n → nodes p ≡ Some d → d.next ≡ Some q → (k : ℕ) × (k < n) × IsAhead w t h q k
  ahead_next t h p q n d a live next = go a.behind a.is a.count (parted f (place t h) p d a.before a.behind a.is live).2
    where
      go : (ys : List ℕ) → w.chain (place t h) ≡ a.before ++ (p ∷ ys) → n ≡ length (p ∷ ys) + pages_below w t h → Run nodes ys d.next d.hi None [] → (k : ℕ) × (k < n) × IsAhead w t h q k
      go [] e c r = none_some (sym r.0 ∙ next)
      go (y ∷ ys) e c r =
          let same : y ≡ q = some_is (sym r.1.here ∙ next) in (
            length (y ∷ ys) + pages_below w t h,
            less (length (y ∷ ys)) (pages_below w t h) c,
            record { before = a.before ++ (p ∷ []); behind = ys; is = e ∙ ap (λ z. a.before ++ (p ∷ (z ∷ ys))) same ∙ sym (append_assoc a.before (p ∷ []) (q ∷ ys)); count = refl },
          )
        where
          less : (l low : ℕ) → n ≡ suc l + low → l + low < n
          less l low g = omega arith

  -- and so does a step down
  pub ahead_down : (t : Tree) (h p c n : ℕ) → IsAhead w t (suc h) p n → In c (w.chain (place t h)) → (k : ℕ) × (k < n) × IsAhead w t h c k
  ahead_down t h p c n a i =
      let b = ahead_at t h c i in
      (b.0, less b.0 n (length a.behind) (pages_below w t (suc h)) (ahead_few t h c b.0 b.1) a.count, b.1)
    where
      less : (k n l low : ℕ) → k ≤ low → n ≡ suc l + low → k < n
      less k n l low e g = omega arith

-- the count as a function is the forest's
length_run : (n : ℕ) (nodes : Nodes) (ps : List ℕ) (from : Option ℕ) (lo hi : Key) → length ps ≤ n → Run nodes ps from lo None hi → length_along n nodes from ≡ length ps
length_run n nodes [] from lo hi l r = ap (length_along n nodes) r.0 ∙ none n
  where
    none : (n : ℕ) → length_along n nodes None ≡ 0
    none zero = refl
    none (suc n) = refl
length_run zero nodes (p ∷ ps) from lo hi l r = absurd (no l)
  where
    no : length (p ∷ ps) ≤ 0 → ⊥
    no l = omega arith
length_run (suc n) nodes (p ∷ ps) from lo hi l r =
    ap (length_along (suc n) nodes) r.1.here ∙ ap (λ o. length_along n nodes (next_of o) + 1) r.1.live ∙ ap (λ z. z + 1) (length_run n nodes ps r.0.next r.0.hi hi (omega arith) r.2) ∙ one (length ps)
  where
    one : (k : ℕ) → k + 1 ≡ suc k
    one k = omega arith

module _ {nodes : Nodes} {roots : Tree → Option ℕ} {w : Forest} (f : WellFormed nodes roots w) (below : (p : ℕ) (d : Node) → nodes p ≡ Some d → p < page_numbers) where
  level_length : (t : Tree) (h p : ℕ) → head (w.chain (place t h)) ≡ Some p → length_along page_numbers nodes (Some p) ≡ length (w.chain (place t h))
  level_length t h p e = ap (length_along page_numbers nodes) (sym e) ∙ length_run page_numbers nodes (w.chain (place t h)) _ [] [] (chain_few f page_numbers below (place t h)) (chain_run f (place t h) p (head_in _ p e))

  under_count : (t : Tree) (h n p : ℕ) → suc h ≤ n → head (w.chain (place t h)) ≡ Some p → pages_under n nodes (Some p) ≡ pages_below w t (suc h)
  under_count t h zero p l e = absurd (no l)
    where
      no : suc h ≤ 0 → ⊥
      no l = omega arith
  under_count t zero (suc n) p l e =
      let i = head_in _ p e in
      let d = f.page (place t 0) p (f.homed (place t 0) p i) in
      ap (λ z. z + pages_under n nodes (first_of (nodes p))) (level_length t 0 p e) ∙ ap (λ z. length (w.chain (place t 0)) + z) (ap (pages_under n nodes) (ap first_of d.1.live ∙ leaf_first d.0.lo d.0.hi d.0.content d.1.sound.holds) ∙ none n)
    where
      none : (n : ℕ) → pages_under n nodes None ≡ 0
      none zero = refl
      none (suc n) = refl
  under_count t (suc h) (suc n) p l e =
      let i = head_in _ p e in
      let d = f.page (place t (suc h)) p (f.homed (place t (suc h)) p i) in
      let c = child_of f t h p d.0 e d.1.live in
      ap (λ z. z + pages_under n nodes (first_of (nodes p))) (level_length t (suc h) p e) ∙ ap (λ z. length (w.chain (place t (suc h))) + z) (ap (pages_under n nodes) (ap first_of d.1.live ∙ c.1) ∙ under_count t h n c.0 (omega arith) c.2)

-- how many pages a tree has
pub pages_law : PagesLaw
pages_law s w f below t root is =
    let m = subst (λ o. MatchOption o ((h : ℕ) → w.chain (place t h) ≡ []) (λ r. (h : ℕ) × (head (w.chain (place t h)) ≡ Some r) × (w.chain (place t (suc h)) ≡ []))) is (f.top t) in
    (m.0, head_in _ root m.1, ap (pages_under page_numbers (nodes_of s)) is ∙ under_count f (nodes_below s below) t m.0 page_numbers root (levels_few f page_numbers (nodes_below s below) t m.0 root m.1) m.1)

-- clean paths

-- who passes is not among those of whom none does
none_in : {X P : Type 0} (passes : X → Bool) (xs ys : List X) (x : X) → passes x ≡ true → list_any passes (xs ++ x ∷ ys) ≡ false → P
none_in passes [] ys x p e = not_both (passes x) (or_parts (passes x) (list_any passes ys) e).0 p
none_in passes (z ∷ xs) ys x p e = none_in passes xs ys x p (or_parts (passes z) (list_any passes (xs ++ x ∷ ys)) e).1

cons_first : {X : Type 0} {x y : X} {xs ys : List X} → x ∷ xs ≡ y ∷ ys → x ≡ y
cons_first e = cc

cons_rest : {X : Type 0} {x y : X} {xs ys : List X} → x ∷ xs ≡ y ∷ ys → xs ≡ ys
cons_rest e = cc

cons_same : {X : Type 0} {x y : X} {xs ys : List X} → x ≡ y → xs ≡ ys → x ∷ xs ≡ y ∷ ys
cons_same e g = cc

-- the last of a list that passes is one
last_one : {X : Type 0} (passes : X → Bool) (es xs ys us vs : List X) (x u : X) → es ≡ xs ++ x ∷ ys → es ≡ us ++ u ∷ vs → passes x ≡ true → passes u ≡ true → list_any passes ys ≡ false → list_any passes vs ≡ false → (xs ≡ us) × (x ≡ u)
last_one passes es [] ys [] vs x u e g p q h k = (refl, cons_first (sym e ∙ g))
last_one passes es [] ys (z ∷ us) vs x u e g p q h k = absurd (none_in passes us vs u q (sym (ap (list_any passes) (cons_rest (sym e ∙ g))) ∙ h))
last_one passes es (z ∷ xs) ys [] vs x u e g p q h k = absurd (none_in passes xs ys x p (ap (list_any passes) (cons_rest (sym e ∙ g)) ∙ k))
last_one passes es (z ∷ xs) ys (y ∷ us) vs x u e g p q h k =
    let s : z ∷ (xs ++ x ∷ ys) ≡ y ∷ (us ++ u ∷ vs) = sym e ∙ g in
    let r = last_one passes (xs ++ x ∷ ys) xs ys us vs x u refl (cons_rest s) p q h k in
    (cons_same (cons_first s) r.0, r.1)

-- the last pointer within a bound is one
pub last_is : {bound : Bound Key} {es : List (Key × ℕ)} {c d : ℕ} {a b : Bool} → IsPointer bound es c a → IsPointer bound es d b → (c ≡ d) × (a ≡ b)
last_is {bound} {es} p q =
    let r = last_one (λ e. is_up_to bound e.0) es p.last.before p.last.after q.last.before q.last.after (p.key, _) (q.key, _) p.last.is q.last.is p.last.passed q.last.passed p.last.none q.last.none in
    (ap (λ (z : Key × ℕ). z.1) r.1, p.is_first ∙ ap (λ l. nat_eq (length l) 0) r.0 ∙ sym q.is_first)

-- the page at which a clean path stands is passed
pub clean_page : (nodes : Nodes) (aim : Bound Key) (path : List ℕ) (p : ℕ) (first : Bool) → CleanFrom nodes aim p first path → (n : Node) → nodes p ≡ Some n → NeedsNoRepair nodes aim p first n
clean_page nodes aim [] p first c n live = absurd c
clean_page nodes aim (q ∷ rest) p first c n live = subst (λ (z : Node). NeedsNoRepair nodes aim p first z) (some_is (sym c.2.live ∙ live)) c.2

-- from an index it goes one down the list
pub clean_down : (nodes : Nodes) (aim : Bound Key) (path : List ℕ) (p : ℕ) (first : Bool) → CleanFrom nodes aim p first path → (n : Node) (es : List (Key × ℕ)) → nodes p ≡ Some n → n.content ≡ Index es → (c : ℕ) (b : Bool) → IsPointer aim es c b
    → (rest : List ℕ) × (path ≡ p ∷ rest) × CleanFrom nodes aim c b rest
clean_down nodes aim [] p first k n es live index c b last = absurd k
clean_down nodes aim (q ∷ rest) p first k n es live index c b last =
    let same : k.1 ≡ n = some_is (sym k.2.live ∙ live) in
    elim k.3 [
      | inl a ↦ absurd (apart (sym (ap (λ (z : Node). z.content) (sym same) ∙ a.1) ∙ index))
      | inr a ↦
          let list : a.0 ≡ es = one (sym a.1 ∙ ap (λ (z : Node). z.content) same ∙ index) in
          let e = last_is (subst (λ z. IsPointer aim z a.2 a.3) list a.4) last in
          (rest, ap (λ z. z ∷ rest) k.0, subst (λ z. CleanFrom nodes aim z b rest) e.0 (subst (λ z. CleanFrom nodes aim a.2 z rest) e.1 a.5))
    ]
  where
    apart : {xs : List (Key × Key)} {ys : List (Key × ℕ)} → Leaf xs ≡ Index ys → ⊥
    apart e = cc

    one : {xs ys : List (Key × ℕ)} → Index xs ≡ Index ys → xs ≡ ys
    one e = cc

-- at a leaf it ends
pub clean_leaf : (nodes : Nodes) (aim : Bound Key) (path : List ℕ) (p : ℕ) (first : Bool) → CleanFrom nodes aim p first path → (n : Node) (es : List (Key × Key)) → nodes p ≡ Some n → n.content ≡ Leaf es → path ≡ p ∷ []
clean_leaf nodes aim [] p first k n es live leaf = absurd k
clean_leaf nodes aim (q ∷ rest) p first k n es live leaf =
    let same : k.1 ≡ n = some_is (sym k.2.live ∙ live) in
    elim k.3 [
      | inl a ↦ ap (λ z. z ∷ rest) k.0 ∙ ap (λ z. p ∷ z) a.2
      | inr a ↦ absurd (apart (sym (ap (λ (z : Node). z.content) (sym same) ∙ a.1) ∙ leaf))
    ]
  where
    apart : {xs : List (Key × Key)} {ys : List (Key × ℕ)} → Index ys ≡ Leaf xs → ⊥
    apart e = cc

-- the last pointer within a bound is one of the index, and a later one if it is not the first
pub last_in : {bound : Bound Key} {es : List (Key × ℕ)} {c : ℕ} {b : Bool} → (k : IsPointer bound es c b) → In (k.key, c) es × (b ≡ false → In (k.key, c) (later es))
last_in {bound} {es} {c} {b} k = (
  subst (λ z. In (k.key, c) z) (sym k.last.is) (In-right k.last.before ((k.key, c) ∷ k.last.after) (k.key, c) (inl refl)),
  λ e. subst (λ z. In (k.key, c) (later z)) (sym k.last.is) (go k.last.before (sym k.is_first ∙ e)),
)
  where
    go : (xs : List (Key × ℕ)) → nat_eq (length xs) 0 ≡ false → In (k.key, c) (later (xs ++ (k.key, c) ∷ k.last.after))
    go [] off = true_false off
    go (x ∷ xs) off = In-right xs ((k.key, c) ∷ k.last.after) (k.key, c) (inl refl)

-- a clean path from a page of a level has a page of each level from there on
clean_length : {nodes : Nodes} {roots : Tree → Option ℕ} {w : Forest} (f : WellFormed nodes roots w) (t : Tree) (aim : Bound Key) (path : List ℕ) (h p : ℕ) (first : Bool) → In p (w.chain (place t h)) → CleanFrom nodes aim p first path → length path ≡ suc h
clean_length f t aim [] h p first i k = absurd k
clean_length {nodes} {roots} {w} f t aim (q ∷ rest) h p first i k = elim k.3 [
  | inl a ↦ ap (λ z. length (q ∷ z)) a.2 ∙ ap suc (sym (leaf_in f t h p k.1 a.0 i k.2.live a.1))
  | inr a ↦
      let up = index_high h k.1.lo k.1.hi a.0 (subst (λ d. Holds h k.1.lo k.1.hi d) a.1 (holds_at f (place t h) p k.1 i k.2.live)) in
      let i' : In p (w.chain (place t (suc up.0))) = subst (λ z. In p (w.chain (place t z))) up.1 i in
      let j : In (a.4.key, a.2) (pointers k.1.content) = subst (λ d. In (a.4.key, a.2) (pointers d)) (sym a.1) (last_in a.4).0 in
      let c = pointer_in f t up.0 p k.1 a.4.key a.2 i' k.2.live j (λ e. none_some (sym k.2.is_open.free ∙ e)) in
      ap suc (clean_length f t aim rest up.0 a.2 a.3 c.1 a.5) ∙ sym (ap suc up.1)
]

pub clean_law : CleanLaw
clean_law s w f t aim path k =
    let r = root_in f t k.root k.is_root in
    (r.0, k.root, k.is_root, r.2, clean_length f t aim path r.0 k.root true r.2 k.clean)

-- the laws

pub pointer_in_law : PointerInLaw
pointer_in_law nodes roots w f = pointer_in f

pub next_in_law : NextInLaw
next_in_law nodes roots w f x p n i live = (λ q. next_in f x p q n i live, next_some f x p n i live)

pub ahead_law : AheadLaw
ahead_law nodes roots w f t = record { begins = ahead_at f t; fits = ahead_few f t; along = ahead_next f t; down = ahead_down f t }

pub clean_step_law : CleanStepLaw
clean_step_law nodes aim path p first n k live = record {
  passed = clean_page nodes aim path p first k n live;
  down = λ es c b index last. clean_down nodes aim path p first k n es live index c b last;
  leaf = λ es leaf. clean_leaf nodes aim path p first k n es live leaf;
}

pub last_pointer_law : LastPointerLaw
last_pointer_law bound es c b k = let i = last_in k in (i.0, i.1, λ d a q. last_is k q)
