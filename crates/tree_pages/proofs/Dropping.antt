-- Dropping a tree: its root goes, and then its pages do, one after the other.
use Rattle.std.proofs.Common.{◌≡◌, ℕ, zero, suc, ◌+◌, ◌<◌, ◌^◌, Bool, true, false, cond, nat_eq, List, [], ◌∷◌, ◌++◌, length, length-append, get_or, Option, Some, None, option_map, Result, Ok, sym, refl, ap, ◌∙◌, subst, inl, inr, ◌⊎◌, append_assoc, append-nil, arith}
use Rattle.std.specs.List.{concat}
use Rattle.std.proofs.lemmas.List.Folds.{concat-append}
use Rattle.sled_nodes.proofs.Basics.{none_some, some_is}
use Rattle.sled_store.specs.In.{In}
use Rattle.sled_nodes.specs.Order.{Key}
use Rattle.sled_store.specs.State.{State, Nodes, nodes_of, RootBecomes, PageBecomes}
use Rattle.sled_store.specs.Store.{Store, now, after_action, SwapsRoot}
use Rattle.sled_store.specs.theory.Facts.{now_acted}
use Rattle.sled_nodes.specs.declared.node.Node.{Node}
use Rattle.sled_store.specs.declared.page.Page.{Page}
use Rattle.tree_laws.specs.Forest.{Tree, Forest, Place, place, head, WellFormed, Run}
use Rattle.tree_laws.specs.Contents.{first_of, page_numbers}
use Rattle.tree_laws.proofs.Reading.{child_of}
use Rattle.tree_laws.proofs.Runs.{In-right, run_parts}
use Rattle.tree_laws.proofs.Cover.{chain_run}
use Rattle.tree_laws.proofs.Fuel.{page_numbers_is, leaf_first, levels_few}
use Rattle.tree_laws.proofs.Replace.{head_in}
use Rattle.tree_pages.specs.Drops.{IsBeginning}
use Rattle.tree_pages.specs.theory.Drops.{first_pages_down, CountsFaults, FreesPage, FreesPages, FreesNone, FreesOne, Counts, KeepsOrFrees, AreFirsts, FreesLevel, FreesLevels, FreesFrom, DropsRoot}
use Rattle.tree_pages.proofs.Walks.{no_level}

-- ---- the first pages of the levels

module _ {nodes : Nodes} {roots : Tree → Option ℕ} {w : Forest} (f : WellFormed nodes roots w) (t : Tree) where
  -- down by first pointers from the first page of a level stand the first pages of those below
  firsts_down : (h n p : ℕ) → h < n → head (w.chain (place t h)) ≡ Some p → (length (first_pages_down n nodes (Some p)) ≡ suc h) × AreFirsts w t (first_pages_down n nodes (Some p))
  firsts_down h zero p l e = absurd (none l)
    where
      none : h < 0 → ⊥
      none l = omega arith
  firsts_down zero (suc n) p l e =
      let here = f.page (place t zero) p (f.homed (place t zero) p (head_in (w.chain (place t zero)) p e)) in
      let down : first_pages_down n nodes (first_of (nodes p)) ≡ [] = ap (first_pages_down n nodes) (ap first_of here.1.live ∙ leaf_first here.0.lo here.0.hi here.0.content here.1.sound.holds) ∙ no_level n nodes in
      subst (λ l. (length (p ∷ l) ≡ 1) × AreFirsts w t (p ∷ l)) (sym down) (refl, (e, tt))
  firsts_down (suc h) (suc n) p l e =
      let here = f.page (place t (suc h)) p (f.homed (place t (suc h)) p (head_in (w.chain (place t (suc h))) p e)) in
      let c = child_of f t h p here.0 e here.1.live in
      let below = firsts_down h n c.0 (omega arith) c.2 in
      let down : first_pages_down n nodes (Some c.0) ≡ first_pages_down n nodes (first_of (nodes p)) = sym (ap (first_pages_down n nodes) (ap first_of here.1.live ∙ c.1)) in
      subst (λ l. (length (p ∷ l) ≡ suc (suc h)) × AreFirsts w t (p ∷ l)) down (ap suc below.0, (subst (λ k. head (w.chain (place t k)) ≡ Some p) (sym below.0) e, below.1))

-- the root of a tree begins its top level
top_head : {nodes : Nodes} {roots : Tree → Option ℕ} {w : Forest} → WellFormed nodes roots w → (t : Tree) (r : ℕ) → roots t ≡ Some r → (h : ℕ) × (head (w.chain (place t h)) ≡ Some r)
top_head {nodes} {roots} {w} f t r e =
    let a = subst (λ o. Rattle.std.specs.Prelude.MatchOption o ((h : ℕ) → w.chain (place t h) ≡ []) (λ r. (h : ℕ) × (head (w.chain (place t h)) ≡ Some r) × (w.chain (place t (suc h)) ≡ []))) e (f.top t) in
    (a.0, a.1)

-- the pages that a walk down from the root came through are the first ones of all levels
pub firsts_are : (s : State) (w : Forest) → WellFormed (nodes_of s) s.roots w → ((p : ℕ) (g : Page) → s.pages p ≡ Some g → p < 2 ^ 64) → (t : Tree) (root : ℕ) → s.roots t ≡ Some root → (firsts : List ℕ) → firsts ≡ first_pages_down page_numbers (nodes_of s) (Some root) → AreFirsts w t firsts
firsts_are s w f below t root e firsts is =
    let k = top_head f t root e in
    subst (AreFirsts w t) (sym is) (firsts_down f t k.0 page_numbers root (levels_few f page_numbers nodes_below t k.0 root k.1) k.1).1
  where
    nodes_below : (p : ℕ) (d : Node) → nodes_of s p ≡ Some d → p < page_numbers
    nodes_below p d e = subst (λ n. p < n) (sym page_numbers_is) (look (s.pages p) refl e)
      where
        look : (o : Option Page) → s.pages p ≡ o → option_map (λ (g : Page). g.node) o ≡ Some d → p < 2 ^ 64
        look None a b = none_some b
        look (Some g) a b = below p g a

-- counted from the end, a level's first page is that of its height
first_at : (w : Forest) (t : Tree) (ps : List ℕ) (i h p : ℕ) → AreFirsts w t ps → i + suc h ≡ length ps → p ≡ get_or ps i p → head (w.chain (place t h)) ≡ Some p
first_at w t [] i h p all e is = absurd (none e)
  where
    none : i + suc h ≡ 0 → ⊥
    none e = omega arith
first_at w t (q ∷ ps) zero h p all e is = subst (λ k. head (w.chain (place t k)) ≡ Some p) (same e) (all.0 ∙ ap Some (sym is))
  where
    same : 0 + suc h ≡ suc (length ps) → length ps ≡ h
    same e = omega arith
first_at w t (q ∷ ps) (suc i) h p all e is = first_at w t ps i h p all.1 (less e) is
  where
    less : suc i + suc h ≡ suc (length ps) → i + suc h ≡ length ps
    less e = omega arith

-- ---- pages that are freed

pub frees_then : {was : Forest} {t : Tree} {ps qs : List ℕ} {a b c : Store} → FreesPages was t ps a b → FreesPages was t qs b c → FreesPages was t (ps ++ qs) a c
frees_then FreesNone more = more
frees_then (FreesOne p h page i live rest) more = FreesOne p h page i live (frees_then rest more)
frees_then (Counts rest) more = Counts (frees_then rest more)

-- where nothing was freed
pub frees_counts : {was : Forest} {t : Tree} {a b : Store} → CountsFaults a b → FreesPages was t [] a b
frees_counts {was} {t} {a} {b} c = elim c.is [
  | inl e ↦ subst (λ (z : Store). FreesPages was t [] a z) (sym e) FreesNone
  | inr e ↦ subst (λ (z : Store). FreesPages was t [] a z) (sym e) (Counts FreesNone)
]

-- the nodes where a page goes
gone_nodes : (p : ℕ) (a : Store) (q : ℕ) → (nodes_of (now (after_action (PageBecomes p None) a)) q ≡ nodes_of (now a) q) ⊎ (nodes_of (now (after_action (PageBecomes p None) a)) q ≡ None)
gone_nodes p a q = go (nat_eq q p) refl
  where
    at : nodes_of (now (after_action (PageBecomes p None) a)) q ≡ option_map (λ (g : Page). g.node) (cond (nat_eq q p) None ((now a).pages q))
    at = ap (λ (s : State). nodes_of s q) (now_acted (PageBecomes p None) a)

    go : (b : Bool) → nat_eq q p ≡ b → (nodes_of (now (after_action (PageBecomes p None) a)) q ≡ nodes_of (now a) q) ⊎ (nodes_of (now (after_action (PageBecomes p None) a)) q ≡ None)
    go true e = inr (at ∙ ap (λ b. option_map (λ (g : Page). g.node) (cond b None ((now a).pages q))) e)
    go false e = inl (at ∙ ap (λ b. option_map (λ (g : Page). g.node) (cond b None ((now a).pages q))) e)

keeps_free : {nodes : Nodes} {was : Forest} {t : Tree} (p : ℕ) (a : Store) → KeepsOrFrees nodes was t a → KeepsOrFrees nodes was t (after_action (PageBecomes p None) a)
keeps_free {nodes} p a k = record { is = λ q h i. go q (gone_nodes p a q) (k.is q h i) }
  where
    go : (q : ℕ) → (nodes_of (now (after_action (PageBecomes p None) a)) q ≡ nodes_of (now a) q) ⊎ (nodes_of (now (after_action (PageBecomes p None) a)) q ≡ None) → (nodes_of (now a) q ≡ nodes q) ⊎ (nodes_of (now a) q ≡ None)
        → (nodes_of (now (after_action (PageBecomes p None) a)) q ≡ nodes q) ⊎ (nodes_of (now (after_action (PageBecomes p None) a)) q ≡ None)
    go q (inl same) (inl was) = inl (same ∙ was)
    go q (inl same) (inr none) = inr (same ∙ none)
    go q (inr none) was = inr none

pub keeps_frees : {nodes : Nodes} {was : Forest} {t : Tree} {ps : List ℕ} {a b : Store} → FreesPages was t ps a b → KeepsOrFrees nodes was t a → KeepsOrFrees nodes was t b
keeps_frees FreesNone k = k
keeps_frees {a = a} (FreesOne p h page i live rest) k = keeps_frees rest (keeps_free p a k)
keeps_frees (Counts rest) k = keeps_frees rest (record { is = k.is })

-- A walk along a level: the pages that it freed so far, and where it goes on
pub record Along (was : Forest) (t : Tree) (h : ℕ) (cursor : Option ℕ) (old new : Store) : Type 0 where
  pub ps : List ℕ
  pub rest : List ℕ
  pub whole : was.chain (place t h) ≡ ps ++ rest
  -- it goes on at the next page, or has ended
  pub on : (cursor ≡ head rest) ⊎ (cursor ≡ None)
  pub freed : FreesPages was t ps old new

pub record FreesAlong (first : ℕ) (cursor : Option ℕ) (old new : Store) : Type 0 where
  pub is : (nodes : Nodes) (roots : Tree → Option ℕ) (was : Forest) → WellFormed nodes roots was → (t : Tree) → KeepsOrFrees nodes was t old → (h : ℕ) → head (was.chain (place t h)) ≡ Some first → Along was t h cursor old new

pub along_first : (first : ℕ) (a : Store) → FreesAlong first (Some first) a a
along_first first a = record { is = λ nodes roots was f t k h begins. record { ps = []; rest = was.chain (place t h); whole = refl; on = inl (sym begins); freed = FreesNone } }

-- behind a page of a chain comes the next one, if there is one
next_is : (nodes : Nodes) (roots : Tree → Option ℕ) (w : Forest) → WellFormed nodes roots w → (x : Place) (before : List ℕ) (p : ℕ) (behind : List ℕ) → w.chain x ≡ before ++ p ∷ behind → (n : Node) → nodes p ≡ Some n → n.next ≡ head behind
next_is nodes roots w f x before p behind is n live =
    let i : In p (w.chain x) = subst (In p) (sym is) (In-right before (p ∷ behind) p (inl refl)) in
    let whole : Run nodes (before ++ p ∷ behind) (head (w.chain x)) [] None [] = subst (λ z. Run nodes z (head (w.chain x)) [] None []) is (chain_run f x p i) in
    let r = run_parts nodes before (p ∷ behind) _ _ _ _ whole in
    go behind r.3.0 (some_is (sym r.3.1.live ∙ live)) r.3.2
  where
    go : (ys : List ℕ) (m : Node) → m ≡ n → Run nodes ys m.next m.hi None [] → n.next ≡ head ys
    go [] m e r = ap (λ (z : Node). z.next) (sym e) ∙ r.0
    go (y ∷ ys) m e r = ap (λ (z : Node). z.next) (sym e) ∙ r.1.here

pub along_more : (first : ℕ) (cursor : Option ℕ) (pid : ℕ) (next : Option ℕ) (a b c : Store) → FreesAlong first cursor a b → cursor ≡ Some pid → FreesPage pid b next c → FreesAlong first next a c
along_more first cursor pid next a b c so at page = record { is = λ nodes roots was f t k h begins. let l = so.is nodes roots was f t k h begins in go nodes roots was f t k h l l.rest l.whole l.on page.is }
  where
    go : (nodes : Nodes) (roots : Tree → Option ℕ) (was : Forest) → WellFormed nodes roots was → (t : Tree) → KeepsOrFrees nodes was t a → (h : ℕ) → (l : Along was t h cursor a b)
        → (rest : List ℕ) → was.chain (place t h) ≡ l.ps ++ rest → (cursor ≡ head rest) ⊎ (cursor ≡ None)
        → ((page : Page) × ((now b).pages pid ≡ Some page) × (next ≡ page.node.next) × (c ≡ after_action (PageBecomes pid None) b)) ⊎ ((next ≡ None) × CountsFaults b c)
        → Along was t h next a c
    go nodes roots was f t k h l rest whole on (inr (none, counts)) = record { ps = l.ps; rest = rest; whole = whole; on = inr none; freed = subst (λ z. FreesPages was t z a c) (append-nil l.ps) (frees_then l.freed (frees_counts counts)) }
    go nodes roots was f t k h l rest whole (inr none) (inl more) = none_some (sym none ∙ at)
    go nodes roots was f t k h l [] whole (inl none) (inl more) = none_some (sym none ∙ at)
    go nodes roots was f t k h l (p ∷ ps) whole (inl begins) (inl (page, live, leads, is)) =
        let same : p ≡ pid = some_is (sym begins ∙ at) in
        let here : In pid (was.chain (place t h)) = subst (λ z. In pid z) (sym whole) (In-right l.ps (p ∷ ps) pid (inl (sym same))) in
        let node : nodes_of (now b) pid ≡ Some page.node = ap (option_map (λ (g : Page). g.node)) live in
        let was_node : nodes pid ≡ Some page.node = elim ((keeps_frees l.freed k).is pid h here) [
          | inl kept ↦ sym kept ∙ node
          | inr gone ↦ none_some (sym gone ∙ node)
        ] in record {
          ps = l.ps ++ pid ∷ [];
          rest = ps;
          whole = whole ∙ ap (λ z. l.ps ++ z ∷ ps) same ∙ sym (append_assoc l.ps (pid ∷ []) ps);
          on = inl (leads ∙ next_is nodes roots was f (place t h) l.ps pid ps (whole ∙ ap (λ z. l.ps ++ z ∷ ps) same) page.node was_node);
          freed = frees_then l.freed (FreesOne pid h page here live (subst (λ (z : Store). FreesPages was t [] (after_action (PageBecomes pid None) b) z) (sym is) FreesNone));
        }

pub along_all : (first : ℕ) (cursor : Option ℕ) (a b : Store) → FreesAlong first cursor a b → FreesLevel first a b
along_all first cursor a b so = record { is = λ nodes roots was f t k h begins. let l = so.is nodes roots was f t k h begins in (l.ps, (l.rest, l.whole), l.freed) }

-- levels, one after the other
pub from_none : (firsts : List ℕ) (a : Store) → FreesFrom firsts 0 a a
from_none firsts a = record { is = λ nodes roots was f t k all. record { levels = []; many_are = refl; begins = λ h. (was.chain (place t h), refl); freed = FreesNone } }

level_more : (levels : List (List ℕ)) (ps : List ℕ) (chain : ℕ → List ℕ) → ((h : ℕ) → IsBeginning (get_or levels h []) (chain h)) → IsBeginning ps (chain (length levels)) → (h : ℕ) → IsBeginning (get_or (levels ++ ps ∷ []) h []) (chain h)
level_more [] ps chain all here zero = here
level_more [] ps chain all here (suc h) = (chain (suc h), refl)
level_more (l ∷ levels) ps chain all here zero = all zero
level_more (l ∷ levels) ps chain all here (suc h) = level_more levels ps (λ k. chain (suc k)) (λ k. all (suc k)) here h

pub from_more : (firsts : List ℕ) (done i first : ℕ) (a b c : Store) → i + suc done ≡ length firsts → first ≡ get_or firsts i first → FreesFrom firsts done a b → FreesLevel first b c → FreesFrom firsts (done + 1) a c
from_more firsts done i first a b c at is so level = record {
  is = λ nodes roots was f t k all.
      let l = so.is nodes roots was f t k all in
      let n = level.is nodes roots was f t (keeps_frees l.freed k) done (first_at was t firsts i done first all at is) in record {
        levels = l.levels ++ n.0 ∷ [];
        many_are = length-append l.levels (n.0 ∷ []) ∙ ap (λ m. m + 1) l.many_are;
        begins = level_more l.levels n.0 (λ h. was.chain (place t h)) l.begins (subst (λ m. IsBeginning n.0 (was.chain (place t m))) (sym l.many_are) n.1);
        freed = subst (λ z. FreesPages was t z a c) (sym (concat-append l.levels (n.0 ∷ []) ∙ ap (λ z. concat l.levels ++ z) (append-nil n.0))) (frees_then l.freed n.2);
      };
}

-- the root goes, and then the pages of the levels that it leads to
pub root_dropped : (name : Key) (root : ℕ) (firsts : List ℕ) (a mid b : Store) {answer : Result (Unit {0}) (Option ℕ)} (done : Unit {0}) → (now a).roots name ≡ Some root → firsts ≡ first_pages_down page_numbers (nodes_of (now a)) (Some root)
    → SwapsRoot name (Some root) None a mid answer → answer ≡ Ok done → FreesFrom firsts (length firsts) mid b → DropsRoot name a b
root_dropped name root firsts a mid b done named is swaps ok frees =
    let gone : mid ≡ after_action (RootBecomes name None) a = (subst (λ z. SwapsRoot name (Some root) None a mid z) ok swaps).is.1 in
    record {
      is = λ was f below. (
        length firsts,
        subst (λ (s : Store). FreesLevels was name (length firsts) s b) gone (frees.is (nodes_of (now a)) (now a).roots was f name
            (record { is = λ p h i. inl (ap (λ (s : Store). nodes_of (now s) p) gone ∙ ap (λ (s : State). nodes_of s p) (now_acted (RootBecomes name None) a)) })
            (firsts_are (now a) was f below name root named firsts is)),
      );
    }
