-- Walks from a root to the leaf under a target.
use Rattle.std.proofs.Common.{◌≡◌, ℕ, zero, suc, ◌+◌, ◌-◌, ◌<◌, ◌≤◌, Bool, true, List, [], ◌∷◌, ◌++◌, length, slice_get, Option, Some, None, option_map, sym, refl, ap, ◌∙◌, subst, inl, inr, arith}
use Rattle.std.specs.Option.{option_to_list}
use Rattle.std.specs.declared.ops.Bound.{Bound}
use Rattle.std.specs.declared.ops.Bound.TheVariants.{Included}
use Rattle.sled_nodes.proofs.Basics.{none_some, some_is}
use Rattle.sled_nodes.specs.Order.{Key}
use Rattle.sled_store.specs.In.{In}
use Rattle.sled_nodes.specs.Among.{is_up_to}
use Rattle.sled_store.specs.State.{State, nodes_of}
use Rattle.sled_store.specs.Store.{Store, now, AreGiven, IsReadRefused, is_read_refused_as, view_of}
use Rattle.sled_nodes.specs.declared.error.Error.{Error}
use Rattle.sled_nodes.specs.declared.error.Error.TheVariants.{CollectionNotFound, Unsupported, ReportableBug, Io, Corruption, NoMemory, Closed}
use Rattle.sled_store.specs.declared.page.Page.{Page}
use Rattle.sled_store.specs.declared.page.View.{View}
use Rattle.tree_laws.specs.Forest.{Tree, Forest, Place, place, WellFormed}
use Rattle.tree_laws.specs.Paths.{CleanFrom, IsAhead, tree_pages}
use Rattle.tree_laws.proofs.Known.{root_in}
use Rattle.tree_laws.proofs.Runs.{In-left, In-right, In_cases}
use Rattle.tree_laws.proofs.Looking.{ahead_at, ahead_few, pages_law}
use Rattle.tree_laws.proofs.Viewed.{viewed, gone}
use Rattle.tree_reads.specs.Walk.{IsLeafFor, IsOfTree, IsWay, IsTreePage, HasTooMany, RefusesWalk, refuses_walk_as}
use Rattle.tree_reads.specs.theory.Walk.{Stands, Turns, BeginsWalk, KeepsWay}
use Rattle.tree_reads.specs.declared.TheConstants.{MOST_PAGES}

-- A walk stands at the page, at every forest, and all the pages that it looked at and that are ahead are the tree's
pub record Goes (s : State) (root : ℕ) (target : Bound Key) (from pid looked : ℕ) : Type 0 where
  pub more : from ≤ looked
  pub is : (w : Forest) → WellFormed (nodes_of s) s.roots w → (t : Tree) → s.roots t ≡ Some root → (ahead : ℕ) × Stands (nodes_of s) w t target pid ahead × (ahead + looked ≤ tree_pages s t + from)

-- .. and along a clean path from the root so many are left of the path
pub record Walks (s : State) (root : ℕ) (target : Bound Key) (from pid looked : ℕ) : Type 0 where
  pub goes : Goes s root target from pid looked
  pub clean : (key : Key) → target ≡ Included key → (first : Bool) (path : List ℕ) → CleanFrom (nodes_of s) (Included key) root first path
      → (b : Bool) × (rest : List ℕ) × (looked + length rest ≤ from + length path) × CleanFrom (nodes_of s) (Included key) pid b rest

at_root : (a b c from : ℕ) → a ≤ b → c ≡ b → a + from ≤ c + from
at_root a b c from h e = omega arith

no_less : (a : ℕ) → a ≤ a
no_less a = omega arith

pub goes_first : (s : Store) (root : ℕ) (target : Bound Key) (from : ℕ) → AreGiven s → is_up_to target [] ≡ true → Goes (now s) root target from root from
goes_first s root target from k begins = record {
  more = no_less from;
  is = λ w f t is.
      let r = root_in f t root is in
      let l = pages_law (now s) w f k.numbered t root is in
      let a = ahead_at f t l.0 root l.1 in (
        a.0,
        record { height = l.0; node = r.1; live = r.3; begins = ap (is_up_to target) r.4 ∙ begins; is = a.1 },
        at_root a.0 _ (tree_pages (now s) t) from (ahead_few f t l.0 root a.0 a.1) l.2,
      );
}

pub walk_first : (s : Store) (root : ℕ) (target : Bound Key) (from : ℕ) → AreGiven s → is_up_to target [] ≡ true → Walks (now s) root target from root from
walk_first s root target from k begins = record {
  goes = goes_first s root target from k begins;
  clean = λ key is first path c. (first, path, no_less (from + length path), c);
}

pub one_less : (k a l m : ℕ) → k < a → a + l ≤ m → k + (l + 1) ≤ m
one_less k a l m h e = omega arith

one_more : (a b : ℕ) → a ≤ b → a ≤ b + 1
one_more a b h = omega arith

one_left : (l r q m n : ℕ) → l + r ≤ m → r ≡ suc q → (l + 1) + q ≤ m
one_left l r q m n h e = omega arith

-- a path is not empty
pub some_left : (s : State) (key : Key) (p : ℕ) (b : Bool) (rest : List ℕ) → CleanFrom (nodes_of s) (Included key) p b rest → 1 ≤ length rest
some_left s key p b [] c = absurd c
some_left s key p b (q ∷ rest) c = one (length rest)
  where
    one : (n : ℕ) → 1 ≤ suc n
    one n = omega arith

module _ (s : State) (root : ℕ) (target : Bound Key) (from pid looked : ℕ) (k : Goes s root target from pid looked) where
  pub goes_more : (v : View) (q : ℕ) → Some v ≡ view_of pid (s.pages pid) → Turns target v.node (Some q) → Goes s root target from q (looked + 1)
  goes_more v q read turns = record {
    more = one_more from looked k.more;
    is = λ w f t is.
        let x = viewed pid (s.pages pid) v read in
        let a = k.is w f t is in
        let b = turns.is (nodes_of s) s.roots w f t pid a.0 (ap (option_map (λ (g : Page). g.node)) x.1) a.1 in
        (b.0, b.2, one_less b.0 a.0 looked (tree_pages s t + from) b.1 a.2);
  }

  pub walk_ends : (v : View) (count : ℕ) → Some v ≡ view_of pid (s.pages pid) → Turns target v.node None → count ≡ looked + 1 → IsLeafFor s root target from v count
  walk_ends v count read turns next =
      let x = viewed pid (s.pages pid) v read in record {
        live = ap s.pages x.0 ∙ x.1;
        more = above from looked count k.more next;
        is = λ w f t is.
            let a = k.is w f t is in
            let b = turns.is (nodes_of s) s.roots w f t pid a.0 (ap (option_map (λ (g : Page). g.node)) x.1) a.1 in
            let i = subst (λ p. In p (w.chain (place t 0))) (sym x.0) b.1 in
            let c = lower w f t v.pid a.0 (subst (λ p. Stands (nodes_of s) w t target p a.0) (sym x.0) a.1) i in
            (b.0, c.0, c.1, all_in c.0 a.0 looked count (tree_pages s t) from c.2 a.2 next);
      }
    where
      above : (from looked count : ℕ) → from ≤ looked → count ≡ looked + 1 → from < count
      above from looked count h e = omega arith

      all_in : (c a l count m from : ℕ) → c ≤ a → a + l ≤ m + from → count ≡ l + 1 → c + count ≤ m + from + 1
      all_in c a l count m from h e n = omega arith

      -- the pages ahead of the leaf on its level are no more than all that lie ahead
      lower : (w : Forest) → WellFormed (nodes_of s) s.roots w → (t : Tree) (p ahead : ℕ) → Stands (nodes_of s) w t target p ahead → In p (w.chain (place t 0)) → (n : ℕ) × IsAhead w t 0 p n × (n ≤ ahead)
      lower w f t p ahead stands i = (ahead, subst (λ h. IsAhead w t h p ahead) (same_height w f t p stands.height 0 stands.is i) stands.is, no_less ahead)
        where
          same_height : (w : Forest) → WellFormed (nodes_of s) s.roots w → (t : Tree) (p h g : ℕ) → IsAhead w t h p ahead → In p (w.chain (place t g)) → h ≡ g
          same_height w f t p h g a i = ap (λ (x : Place). x.height) (some_is (sym (f.homed (place t h) p (in_chain a)) ∙ f.homed (place t g) p i))
            where
              in_chain : IsAhead w t h p ahead → In p (w.chain (place t h))
              in_chain a = subst (λ l. In p l) (sym a.is) (In-right a.before (p ∷ a.behind) p (inl refl))

  pub walk_gone : None ≡ view_of pid (s.pages pid) → (of : ℕ → ℕ) → HasTooMany of s root
  walk_gone read of w f t is =
      let a = k.is w f t is in
      none_some (sym (ap (option_map (λ (g : Page). g.node)) (gone pid (s.pages pid) read)) ∙ a.1.live)

  pub walk_full : MOST_PAGES ≤ looked → HasTooMany (λ pages. pages + from) s root
  walk_full full w f t is = let a = k.is w f t is in enough a.0 looked (tree_pages s t + from) a.2 full
    where
      enough : (a l m : ℕ) → a + l ≤ m → MOST_PAGES ≤ l → MOST_PAGES ≤ m
      enough a l m h g = omega arith

module _ (s : State) (root : ℕ) (target : Bound Key) (from pid looked : ℕ) (k : Walks s root target from pid looked) where
  pub walk_more : (v : View) (q : ℕ) → Some v ≡ view_of pid (s.pages pid) → Turns target v.node (Some q) → Walks s root target from q (looked + 1)
  walk_more v q read turns = record {
    goes = goes_more s root target from pid looked k.goes v q read turns;
    clean = λ key is first path c.
        let x = viewed pid (s.pages pid) v read in
        let d = k.clean key is first path c in
        let e = turns.clean (nodes_of s) key pid d.0 d.1 is (ap (option_map (λ (g : Page). g.node)) x.1) d.3 in
        (e.0, e.1, one_left looked (length d.1) (length e.1) (from + length path) 0 d.2 e.2, e.3);
  }

  pub walk_lost : None ≡ view_of pid (s.pages pid) → (key : Key) → target ≡ Included key → (first : Bool) (path : List ℕ) → CleanFrom (nodes_of s) (Included key) root first path → MOST_PAGES < from + length path
  walk_lost read key is first path c = let d = k.clean key is first path c in go d.0 d.1 d.3
    where
      go : (b : Bool) (rest : List ℕ) → CleanFrom (nodes_of s) (Included key) pid b rest → MOST_PAGES < from + length path
      go b [] c = absurd c
      go b (q ∷ rest) c = none_some (sym (ap (option_map (λ (g : Page). g.node)) (gone pid (s.pages pid) read)) ∙ c.2.live)

  pub walk_long : MOST_PAGES ≤ looked → (key : Key) → target ≡ Included key → (first : Bool) (path : List ℕ) → CleanFrom (nodes_of s) (Included key) root first path → MOST_PAGES < from + length path
  walk_long full key is first path c = let d = k.clean key is first path c in enough looked (length d.1) (from + length path) d.2 (some_left s key pid d.0 d.1 d.3) full
    where
      enough : (l r m : ℕ) → l + r ≤ m → 1 ≤ r → MOST_PAGES ≤ l → MOST_PAGES < m
      enough l r m h e g = omega arith

-- ---- pages that are not read

-- the page was of the tree
pub page_refused : (of : ℕ → ℕ) (s : Store) (root pid : ℕ) → ((t : Tree) → (now s).roots t ≡ Some root → IsTreePage (now s) t pid) → (e : Error) → IsReadRefused pid s e → RefusesWalk of s root e
page_refused of s root pid page e r = record { is = go e r.is }
  where
    go : (e : Error) → is_read_refused_as pid s e → refuses_walk_as of s root e
    go NoMemory k = tt
    go (Io fault) k = (pid, k, page)
    go (ReportableBug text) k = absurd k
    go (CollectionNotFound name) k = absurd k
    go (Unsupported text) k = absurd k
    go (Corruption fault) k = absurd k
    go Closed k = absurd k

-- a walk stood at it
pub walk_refused : (of : ℕ → ℕ) (s : Store) (root : ℕ) (target : Bound Key) (from pid looked : ℕ) → Goes (now s) root target from pid looked → (e : Error) → IsReadRefused pid s e → RefusesWalk of s root e
walk_refused of s root target from pid looked k = page_refused of s root pid (λ t is w f. let a = (k.is w f t is).1 in (a.height, subst (In pid) (sym a.is.is) (In-right a.is.before (pid ∷ a.is.behind) pid (inl refl))))

-- ---- ways that are kept

got_in : {X : Type 0} (xs : List X) (i : ℕ) (x : X) → slice_get xs i ≡ Some x → In x xs
got_in [] i x e = none_some e
got_in (y ∷ xs) zero x e = inl (sym (some_is e))
got_in (y ∷ xs) (suc i) x e = inr (got_in xs i x e)

pub last_in : {X : Type 0} (xs way : List X) (x : X) → xs ≡ way → Some x ≡ slice_get xs (length xs - 1) → In x way
last_in xs way x e got = subst (In x) e (got_in xs (length xs - 1) x (sym got))

pub less_in : {X : Type 0} (old new : List X) (last : Option X) → old ≡ new ++ option_to_list last → (x : X) → In x new → In x old
less_in old new last e x i = subst (In x) (sym e) (In-left new (option_to_list last) x i)

pub pushed_way : (old new : List View) (v : View) → new ≡ old ++ v ∷ [] → KeepsWay old v new
pushed_way old new v e = record {
  is = λ u i. elim (In_cases old (v ∷ []) u (subst (In u) e i)) [
    | inl before ↦ inl before
    | inr last ↦ inr (only u last)
  ];
}
  where
    only : (u : View) → In u (v ∷ []) → u ≡ v
    only u (inl same) = same
    only u (inr none) = absurd none

pub same_way : (old new : List View) (v : View) → new ≡ old → KeepsWay old v new
same_way old new v e = record { is = λ u i. inl (subst (In u) e i) }

-- a walk that begins below a page of the tree
pub goes_below : (s : State) (root : ℕ) (target : Bound Key) (v : View) (p : ℕ) → IsOfTree s root v → is_up_to target v.node.lo ≡ true → Turns target v.node (Some p) → Goes s root target 0 p 0
goes_below s root target v p o begins turns = record {
  more = no_less 0;
  is = λ w f t is.
      let a = o.is w f t is in
      let live = ap (option_map (λ (g : Page). g.node)) o.live in
      let b = turns.is (nodes_of s) s.roots w f t v.pid a.1 live (record { height = a.0; node = v.node; live = live; begins = begins; is = a.2 }) in
      (b.0, b.2, still_few b.0 a.1 (tree_pages s t) b.1 a.3);
}
  where
    still_few : (k a m : ℕ) → k < a → a ≤ m → k + 0 ≤ m + 0
    still_few k a m h e = omega arith

pub goes_on : (s : Store) (root : ℕ) (target : Bound Key) (way : List View) (p : ℕ) → AreGiven s → is_up_to target [] ≡ true → IsWay (now s) root way → BeginsWalk target way root p → Goes (now s) root target 0 p 0
goes_on s root target way p given begins h b = elim b.is [
  | inl e ↦ subst (λ q. Goes (now s) root target 0 q 0) (sym e) (goes_first s root target 0 given begins)
  | inr t ↦ goes_below (now s) root target t.0 p (h t.0 t.1) t.2 t.3
]

-- a page that was passed is one of the tree
passed_page : (s : State) (root : ℕ) (target : Bound Key) (pid looked : ℕ) → Goes s root target 0 pid looked → (v : View) → Some v ≡ view_of pid (s.pages pid) → IsOfTree s root v
passed_page s root target pid looked k v read =
    let x = viewed pid (s.pages pid) v read in record {
      live = ap s.pages x.0 ∙ x.1;
      is = λ w f t is.
          let a = k.is w f t is in
          (a.1.height, a.0, subst (λ p. IsAhead w t a.1.height p a.0) (sym x.0) a.1.is, few a.0 looked (tree_pages s t) a.2);
    }
  where
    few : (a l m : ℕ) → a + l ≤ m + 0 → a ≤ m
    few a l m h = omega arith

pub way_kept : (s : State) (root : ℕ) (target : Bound Key) (pid looked : ℕ) → Goes s root target 0 pid looked → (old : List View) (v : View) (new : List View) → Some v ≡ view_of pid (s.pages pid) → IsWay s root old → KeepsWay old v new → IsWay s root new
way_kept s root target pid looked k old v new read h e u i = elim (e.is u i) [
  | inl before ↦ h u before
  | inr same ↦ subst (IsOfTree s root) (sym same) (passed_page s root target pid looked k v read)
]

pub way_less : (s : State) (root : ℕ) (old new : List View) → IsWay s root old → ((v : View) → In v new → In v old) → IsWay s root new
way_less s root old new h less v i = h v (less v i)
