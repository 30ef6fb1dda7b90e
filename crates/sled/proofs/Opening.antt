-- Opening: a tree is planted, the trees are numbered, and what may still be refused.
use Rattle.std.proofs.Common.{◌≡◌, ◌≢◌, ℕ, suc, ◌+◌, ◌*◌, ◌<◌, ◌≤◌, ◌^◌, Bool, true, false, cond, ◌&&◌, List, [], ◌∷◌, length, map, Option, Some, None, is_some, option_map, Less, Equal, Greater, is_eq, Result, Ok, Err, OnOk, IfErr, sym, refl, ap, ◌∙◌, subst, inl, inr, arith}
use Rattle.std.proofs.Math.Path.{fun_ext}
use Rattle.std.specs.FinMap.Entries.{find, is_sorted, below_all}
use Rattle.std.specs.Ordering.{eq_by_cmp, nat_cmp}
use Rattle.std.specs.declared.cmp.Ordering.{Ordering}
use Rattle.std.proofs.lemmas.Bool.Decides.{nat_tests}
use Rattle.std.specs.Str.{bytes_eq}
use Rattle.std.specs.declared.ops.Bound.TheVariants.{Included}
use Rattle.sled_nodes.proofs.Basics.{none_some, some_is, false_true, key_same}
use Rattle.sled_nodes.specs.Order.{Key, key_cmp}
use Rattle.sled_nodes.specs.Among.{is_up_to}
use Rattle.sled_nodes.specs.Node.{count}
use Rattle.sled_store.specs.theory.Facts.{same_name, put_elsewhere, put_here, now_allocates, now_acted, fresh_page}
use Rattle.sled_store.specs.Crash.{crash_states}
use Rattle.sled_store.specs.State.{State, RootBecomes, PageBecomes, nodes_of, after}
use Rattle.sled_store.specs.Store.{Store, now, after_action, after_flush, Allocates, SwapsRoot, IsRefused, AreGiven}
use Rattle.sled_nodes.specs.declared.error.Error.{Error}
use Rattle.sled_nodes.specs.declared.error.Error.TheVariants as error
use Rattle.sled_nodes.specs.declared.node.Node.{Node}
use Rattle.sled_nodes.specs.declared.node.Data.TheVariants as kind
use Rattle.sled_store.specs.declared.page.Page.{Page}
use Rattle.sled_model.specs.Maps.{Map, Maps}
use Rattle.sled_model.specs.State.{default_name}
use Rattle.tree_laws.specs.Forest.{Tree, Forest, Place, WellFormed, IsSized, contents}
use Rattle.tree_laws.specs.Contents.{trees_of}
use Rattle.tree_laws.specs.Paths.{IsClean}
use Rattle.tree_laws.specs.Crashes.{IsValid, IsCrashConsistent, AddsCrashStates, Flushes}
use Rattle.tree_laws.specs.Snapshot.{Snapshot, snapshot_of, nodes_at, HasForest, IsOrphan}
use Rattle.tree_laws.specs.theory.Laws.{IsAlone}
use Rattle.tree_laws.proofs.Crashing.{adds_page, adds_is, adds_extends, adds_unseen, extends_same, extends_then, flushes_same, flushes_left, flushes_valid_law}
use Rattle.tree_laws.proofs.Known.{store_moment}
use Rattle.tree_laws.proofs.Outside.{outside_kept, outside_contents, outside_sized}
use Rattle.tree_laws.proofs.Roots.{plant_law}
use Rattle.tree_laws.proofs.Fuel.{contents_law}
use Rattle.tree_reads.proofs.Seeking.{empty_least}
use Rattle.sled.specs.declared.TheConstants.{DEFAULT_TREE}
use Rattle.sled.specs.Values.{DbValue, numbers_of, given_to, snapshot_of_db}
use Rattle.sled_queues.specs.Values.{WaitingValue, Waitings}
use Rattle.sled_queues.specs.Queues.{Becomes, no_queues}
use Rattle.sled.specs.Sound.{IsDb}
use Rattle.sled.specs.Opens.{or_empty, with_tree, planted, MakesTree, StopsMaking, numbered, IsOnePage, CanBeOpened, RefusesTree, Opens}
use Rattle.sled.specs.theory.Opens.{HasTree, AreNumbered}

-- a root that is a leaf, open and not long, is a clean path of every key
leaf_is_clean : (s : State) (name : Key) (p : ℕ) (n : Node) (es : List (Key × Key)) → s.roots name ≡ Some p → nodes_of s p ≡ Some n → n.lo ≡ [] → n.hi ≡ [] → n.merging ≡ false → n.merging_child ≡ None → n.content ≡ kind.Leaf es → length es ≤ 16
    → (key : Key) → IsClean s name (Included key) (p ∷ [])
leaf_is_clean s name p n es root live lo hi not_merging free leaf fits key = record {
  root = p;
  is_root = root;
  clean = (
    refl,
    n,
    record {
      live = live;
      under = (subst (λ l. is_up_to (Included key) l ≡ true) (sym lo) (empty_least key), inl hi);
      is_open = record { not_merging = not_merging; free = free };
      fits = subst (λ c. count c ≤ 16) (sym leaf) fits;
      many = λ m. refl;
    },
    inl (es, leaf, refl),
  );
}

-- a new page without a home

module _ {node : Node} {pid version : ℕ} {a b : Store} (are : AreGiven a) (new : Allocates node pid version a b) (w : Forest) (f : WellFormed (nodes_of (now a)) (now a).roots w) where
  abbrev page : Page
  page = record { version = version; node = node }

  state : now b ≡ after (PageBecomes pid (Some page)) (now a)
  state = now_allocates node pid version a b new

  none : nodes_of (now a) pid ≡ None
  none = ap (option_map (λ (g : Page). g.node)) (fresh_page a pid are new.fresh_pid)

  pub made_stray : IsOrphan w pid
  made_stray y e = let i = f.page y pid e in none_some (sym none ∙ i.1.live)

  same : (p : ℕ) (x : Place) → w.home p ≡ Some x → nodes_of (now b) p ≡ nodes_of (now a) p
  same p x e =
      ap (λ (s : State). nodes_of s p) state
      ∙ ap (option_map (λ (g : Page). g.node)) (put_elsewhere (now a).pages pid p (Some page) (λ s. made_stray x (ap w.home (sym s) ∙ e)))

  roots : (now b).roots ≡ (now a).roots
  roots = ap (λ (s : State). s.roots) state

  pub made_formed : WellFormed (nodes_of (now b)) (now b).roots w
  made_formed = subst (λ r. WellFormed (nodes_of (now b)) r w) (sym roots) (outside_kept (nodes_of (now a)) (nodes_of (now b)) (now a).roots w same f)

  pub made_sized : IsSized (nodes_of (now a)) w → IsSized (nodes_of (now b)) w
  made_sized z = outside_sized (nodes_of (now a)) (nodes_of (now b)) (now a).roots w same f z

  pub made_live : nodes_of (now b) pid ≡ Some node
  made_live = ap (λ (s : State). nodes_of s pid) state ∙ ap (option_map (λ (g : Page). g.node)) (put_here (now a).pages pid (Some page))

  pub made_same : AreGiven b → trees_of (now b) ≡ trees_of (now a)
  made_same given = fun_ext (λ t.
      contents_law (now b) w made_formed given.numbered t
      ∙ ap (λ c. option_map (λ _. c) ((now b).roots t)) (outside_contents (nodes_of (now a)) (nodes_of (now b)) (now a).roots w same f t)
      ∙ ap (λ (r : Tree → Option ℕ). option_map (λ _. contents (nodes_of (now a)) w t) (r t)) roots
      ∙ sym (contents_law (now a) w f are.numbered t))

-- a tree of a name
module _ (name : Key) where
  -- where there is a tree of the name, no map changes and none is added
  pub with_present : (maps : Maps) (m : Map) → maps name ≡ Some m → with_tree name maps ≡ maps
  with_present maps m e = fun_ext (λ t. go t (bytes_eq t name) refl)
    where
      go : (t : Key) (b : Bool) → bytes_eq t name ≡ b → cond b (or_empty (maps t)) (maps t) ≡ maps t
      go t true q = let f : maps t ≡ Some m = ap maps (same_name t name q) ∙ e in ap or_empty f ∙ sym f
      go t false q = refl

  pub planted_present : (maps : Maps) (m : Map) → maps name ≡ Some m → planted name maps ≡ []
  planted_present maps m e = ap (λ o. cond (is_some o) [] (with_tree name maps ∷ [])) e

  pub planted_absent : (maps : Maps) → maps name ≡ None → planted name maps ≡ with_tree name maps ∷ []
  planted_absent maps e = ap (λ o. cond (is_some o) [] (with_tree name maps ∷ [])) e

  -- the tree gets its root
  module _ (s : State) (w : Forest) (f : WellFormed (nodes_of s) s.roots w) (sized : IsSized (nodes_of s) w) (below : (p : ℕ) (g : Page) → s.pages p ≡ Some g → p < 2 ^ 64)
      (r : ℕ) (n : Node) (root : s.roots name ≡ None) (stray : IsOrphan w r) (alone : IsAlone (nodes_of s) r n (kind.Leaf [])) where
    abbrev rooted : State
    rooted = after (RootBecomes name (Some r)) s

    pub planted_well : IsValid rooted
    planted_well = let u = plant_law (nodes_of s) s.roots w f name r n root stray alone in record { forest = u.0.after; formed = u.0.kept; sized = u.0.sized sized }

    pub planted_trees : trees_of rooted ≡ with_tree name (trees_of s)
    planted_trees =
        let u = plant_law (nodes_of s) s.roots w f name r n root stray alone in
        fun_ext (λ t. contents_law rooted u.0.after u.0.kept below t ∙ go u.0.after u.0.others u.1 t (bytes_eq t name) refl)
      where
        go : (v : Forest) → ((u : Tree) → u ≢ name → contents (nodes_of s) v u ≡ contents (nodes_of s) w u) → contents (nodes_of s) v name ≡ [] → (t : Key) (b : Bool) → bytes_eq t name ≡ b
            → option_map (λ _. contents (nodes_of s) v t) (cond b (Some r) (s.roots t)) ≡ cond b (or_empty (trees_of s t)) (trees_of s t)
        go v others empty t true q =
            let e : t ≡ name = same_name t name q in
            ap Some (ap (contents (nodes_of s) v) e ∙ empty) ∙ sym (ap or_empty (contents_law s w f below t ∙ ap (option_map (λ _. contents (nodes_of s) w t)) (ap s.roots e ∙ root)))
        go v others empty t false q =
            ap (λ c. option_map (λ _. c) (s.roots t)) (others t (λ e. false_true (sym q ∙ ap (λ z. bytes_eq z name) e ∙ Rattle.sled_store.specs.theory.Facts.name_itself name))) ∙ sym (contents_law s w f below t)

  -- what may be refused still

  -- a fault is counted, and nothing else changes
  faulted : {maps : List Maps} {a b : Store} (n : ℕ) → AddsCrashStates maps a b → AddsCrashStates maps a (record b { faults = n })
  faulted n x = record { base = x.base; added = x.added; recent = x.recent; actions = x.actions; grew = x.grew; safe = λ s. record { whole = (x.safe s).whole } }

  faulted_again : {a b : Store} (n : ℕ) → CanBeOpened name a b → CanBeOpened name a (record b { faults = n })
  faulted_again n k = record {
    grows = elim k.grows [ inl g ↦ inl (faulted n g.0, g.1) | inr g ↦ inr (faulted n g.0, g.1) ];
    fits = k.fits;
    well = k.well;
    no_group = k.no_group;
    mark = k.mark;
    recovered = k.recovered;
    readable = k.readable;
  }

  -- the store refuses a call
  pub refused : (a b c : Store) (e : Error) → CanBeOpened name a b → b.faults ≡ a.faults → IsRefused e b c → RefusesTree name a e c
  refused a b c error.NoMemory k f r = record {
    cause = record { is = ap (λ (s : Store). s.faults) r.is ∙ f };
    again = subst (λ (s : Store). CanBeOpened name a s) (sym r.is) k;
  }
  refused a b c (error.Io fault) k f r = record {
    cause = record { is = ap (λ (s : Store). s.faults) r.is ∙ ap (λ n. n + 1) f };
    again = subst (λ (s : Store). CanBeOpened name a s) (sym r.is) (faulted_again (b.faults + 1) k);
  }
  refused a b c other k f r = absurd r.is

  -- there is no memory
  pub no_memory : (a b : Store) (e : Error) → e ≡ error.NoMemory → CanBeOpened name a b → b.faults ≡ a.faults → RefusesTree name a e b
  no_memory a b e is k f = subst (λ z. RefusesTree name a z b) (sym is) (record { cause = record { is = f }; again = k })

  pub again_same : (a : Store) → IsValid (now a) → (now a).in_group ≡ false → CanBeOpened name a a
  again_same a well no_group = record { grows = inl (extends_same a, refl); fits = omega arith; well = well; no_group = no_group; mark = refl; recovered = refl; readable = refl }

  -- the tree is there
  pub has_present : (a : Store) → IsValid (now a) → (now a).in_group ≡ false → is_some ((now a).roots name) ≡ true → HasTree name a a
  has_present a well no_group there = go ((now a).roots name) refl there
    where
      go : (o : Option ℕ) → (now a).roots name ≡ o → is_some o ≡ true → HasTree name a a
      go None e t = false_true t
      go (Some r) e t =
          let m : trees_of (now a) name ≡ Some _ = ap (option_map (Rattle.tree_laws.specs.Contents.pairs_under (nodes_of (now a)))) e in
          let none = planted_present (trees_of (now a)) _ m in
          record {
            grows = record {
              extends = subst (λ l. AddsCrashStates l a a) (sym none) (extends_same a);
              actions = more (length (planted name (trees_of (now a)))) (ap length none);
            };
            maps = sym (with_present (trees_of (now a)) _ m);
            fresh = λ absent. none_some (sym absent ∙ m);
            faults = refl;
            again = again_same a well no_group;
          }
        where
          more : (n : ℕ) → n ≡ 0 → a.actions ≡ a.actions + 2 * n
          more n e = omega arith

  -- it is made
  module _ {node : Node} {pid version : ℕ} {a b : Store} (well : IsValid (now a)) (no_group : (now a).in_group ≡ false) (are : AreGiven a) (on : AreGiven b)
      (none : (now a).roots name ≡ None) (new : Allocates node pid version a b) where
    w : Forest
    w = well.forest

    pub unseen : trees_of (now b) ≡ trees_of (now a)
    unfolding w
    unseen = made_same are new w well.formed on

    pub calm_then : (now b).in_group ≡ false
    calm_then = ap (λ (s : State). s.in_group) (now_allocates node pid version a b new) ∙ no_group

    well_then : IsValid (now b)
    unfolding w
    well_then = record { forest = w; formed = made_formed are new w well.formed; sized = made_sized are new w well.formed well.sized }

    pub absent : trees_of (now a) name ≡ None
    absent = ap (option_map (Rattle.tree_laws.specs.Contents.pairs_under (nodes_of (now a)))) none

    one : length (planted name (trees_of (now a))) ≡ 1
    one = ap length (planted_absent (trees_of (now a)) absent)

    pub grown : AddsCrashStates [] a b
    grown = adds_unseen (adds_page new) no_group calm_then well_then unseen

    pub made_again : CanBeOpened name a b
    made_again = record {
      grows = inl (grown, unseen);
      fits = fits a.actions b.actions (length (planted name (trees_of (now a)))) one (adds_page new).actions;
      well = well_then;
      no_group = calm_then;
      mark = ap (λ (s : Store). s.mark) new.is;
      recovered = ap (λ (s : Store). s.recovered) new.is;
      readable = ap (λ (s : Store). s.is_readable) new.is;
    }
      where
        fits : (x y n : ℕ) → n ≡ 1 → y ≡ x + 1 → y ≤ x + 2 * n
        fits x y n e f = omega arith

    pub made_faults : b.faults ≡ a.faults
    made_faults = ap (λ (s : Store). s.faults) new.is

    pub made_root : (now b).roots name ≡ None
    made_root = ap (λ (s : State). s.roots name) (now_allocates node pid version a b new) ∙ none

    pub has_planted : node ≡ record { lo = []; hi = []; next = None; merging = false; merging_child = None; content = kind.Leaf [] } → (c : Store) → c ≡ after_action (RootBecomes name (Some pid)) b → HasTree name a c
    unfolding w
    has_planted is c e =
        let alone : IsAlone (nodes_of (now b)) pid node (kind.Leaf []) = record {
          live = made_live are new w well.formed;
          lo = ap (λ (n : Node). n.lo) is;
          hi = ap (λ (n : Node). n.hi) is;
          next = ap (λ (n : Node). n.next) is;
          merging = ap (λ (n : Node). n.merging) is;
          merging_child = ap (λ (n : Node). n.merging_child) is;
          content = ap (λ (n : Node). n.content) is;
        } in
        let f = made_formed are new w well.formed in
        let z = made_sized are new w well.formed well.sized in
        let stray = made_stray are new w well.formed in
        let at : now c ≡ after (RootBecomes name (Some pid)) (now b) = ap now e ∙ now_acted _ b in
        let good : IsValid (now c) = subst IsValid (sym at) (planted_well (now b) w f z on.numbered pid node made_root stray alone) in
        let maps : trees_of (now c) ≡ with_tree name (trees_of (now a)) = ap trees_of at ∙ planted_trees (now b) w f z on.numbered pid node made_root stray alone ∙ ap (with_tree name) unseen in
        let out : (now c).in_group ≡ false = ap (λ (s : State). s.in_group) at ∙ calm_then in
        let adds = adds_is e in
        let all : AddsCrashStates (planted name (trees_of (now a))) a c =
        subst (λ l. AddsCrashStates l a c) (ap (λ (m : Maps). m ∷ []) maps ∙ sym (planted_absent (trees_of (now a)) absent)) (extends_then grown (adds_extends adds out good)) in
        let count : c.actions ≡ a.actions + 2 * length (planted name (trees_of (now a))) = two a.actions b.actions c.actions (length (planted name (trees_of (now a)))) one (adds_page new).actions adds.actions in
        record {
          grows = record { extends = all; actions = count };
          maps = maps;
          fresh = λ absent. (pid, λ key. leaf_is_clean (now c) name pid node [] (ap (λ (s : State). s.roots name) at ∙ ap (λ (is_it : Bool). cond is_it (Some pid) ((now b).roots name)) (Rattle.sled_store.specs.theory.Facts.name_itself name)) (ap (λ (s : State). nodes_of s pid) at ∙ alone.live) alone.lo alone.hi alone.merging alone.merging_child alone.content (omega arith) key);
          faults = ap (λ (s : Store). s.faults) e ∙ made_faults;
          again = record {
            grows = inr (all, maps);
            fits = at_most _ _ count;
            well = good;
            no_group = out;
            mark = ap (λ (s : Store). s.mark) e ∙ ap (λ (s : Store). s.mark) new.is;
            recovered = ap (λ (s : Store). s.recovered) e ∙ ap (λ (s : Store). s.recovered) new.is;
            readable = ap (λ (s : Store). s.is_readable) e ∙ ap (λ (s : Store). s.is_readable) new.is;
          };
        }
      where
        two : (x y z n : ℕ) → n ≡ 1 → y ≡ x + 1 → z ≡ y + 1 → z ≡ x + 2 * n
        two x y z n e f g = omega arith

        at_most : (x y : ℕ) → x ≡ y → x ≤ y
        at_most x y e = omega arith

  -- what comes of making it
  module _ (a c : Store) (well : IsValid (now a)) (no_group : (now a).in_group ≡ false) (are : AreGiven a) (none : (now a).roots name ≡ None) where
    pub tree_made : MakesTree name a c → HasTree name a c
    tree_made m = has_planted well no_group are m.leaf.given none m.leaf.is refl c m.is

    tree_unmade : (e : Error) → StopsMaking a e c → RefusesTree name a e c
    tree_unmade e s = elim s.did [
      | inl same ↦ refused a a c e (again_same a well no_group) refl (subst (λ (z : Store). IsRefused e z c) same s.refused)
      | inr leaf ↦ refused a s.last c e (made_again well no_group are leaf.given none leaf.is) (made_faults well no_group are leaf.given none leaf.is) s.refused
    ]

    pub all_made : (r : Result (Unit {0}) Error) → OnOk r (MakesTree name a c) → OnOk r (HasTree name a c)
    all_made (Ok done) m = tree_made m
    all_made (Err e) m = tt

    pub all_unmade : (r : Result (Unit {0}) Error) → IfErr r (λ e. StopsMaking a e c) → IfErr r (λ e. RefusesTree name a e c)
    all_unmade (Ok done) s = tt
    all_unmade (Err e) s = tree_unmade e s

  -- what the root is found to be

  -- a new page is no root
  pub unrooted : {node : Node} {pid version : ℕ} {a b : Store} → Allocates node pid version a b → (now a).roots name ≡ None → (now b).roots name ≡ None
  unrooted {node} {pid} {version} {a} {b} new none = ap (λ (s : State). s.roots name) (now_allocates node pid version a b new) ∙ none

  pub root_none : (f : Key → Option ℕ) (o : Option ℕ) (b : Bool) → o ≡ f name → b ≡ is_some o → b ≡ false → f name ≡ None
  root_none f None b is some missing = sym is
  root_none f (Some r) b is some missing = false_true (sym missing ∙ some)

  -- no other root can stand in the way
  pub no_other : {p : Option ℕ} {b c : Store} {answer : Result (Unit {0}) (Option ℕ)} (present : Option ℕ) → (now b).roots name ≡ None → SwapsRoot name None p b c answer → answer ≡ Err present → ⊥
  no_other {p} {b} {c} present none s is =
      let t : SwapsRoot name None p b c (Err present) = subst (λ z. SwapsRoot name None p b c z) is s in
      t.is.2 (t.is.1 ∙ none)

  pub swapped : {r : ℕ} {b c : Store} {answer : Result (Unit {0}) (Option ℕ)} (done : Unit {0}) → SwapsRoot name None (Some r) b c answer → answer ≡ Ok done → c ≡ after_action (RootBecomes name (Some r)) b
  swapped {r} {b} {c} done s is = (subst (λ z. SwapsRoot name None (Some r) b c z) is s).is.1

-- the numbers of the names

-- the names of entries
abbrev pub names_in : List (Key × ℕ) → List Key
names_in rs = map (λ r. r.0) rs

pub found_same : (n : ℕ) (rs : List (Key × ℕ)) (t : Key) → is_some (find key_cmp t (numbered n (names_in rs))) ≡ is_some (find key_cmp t rs)
found_same n [] t = refl
found_same n (r ∷ rs) t = elim (eq_by_cmp key_cmp t r.0) as (λ b. is_some (cond b (Some (n + 1)) (find key_cmp t (numbered (n + 1) (names_in rs)))) ≡ is_some (cond b (Some r.1) (find key_cmp t rs))) [
  | true ↦ refl
  | false ↦ found_same (n + 1) rs t
]

below_same : (k : Key) (n : ℕ) (rs : List (Key × ℕ)) → below_all key_cmp k (numbered n (names_in rs)) ≡ below_all key_cmp k rs
below_same k n [] = refl
below_same k n (r ∷ rs) = ap (λ b. Rattle.std.specs.Ordering.is_lt (key_cmp k r.0) && b) (below_same k (n + 1) rs)

pub sorted_same : (n : ℕ) (rs : List (Key × ℕ)) → is_sorted key_cmp (numbered n (names_in rs)) ≡ is_sorted key_cmp rs
sorted_same n [] = refl
sorted_same n (r ∷ rs) = λ i. below_same r.0 (n + 1) rs i && sorted_same (n + 1) rs i

-- a number that was given lies between
pub number_in : (n : ℕ) (names : List Key) (t : Key) (k : ℕ) → find key_cmp t (numbered n names) ≡ Some k → (n < k) × (k ≤ n + length (numbered n names))
number_in n [] t k e = none_some e
number_in n (name ∷ names) t k e = go (number_in (n + 1) names t k) (eq_by_cmp key_cmp t name) e
  where
    go : (find key_cmp t (numbered (n + 1) names) ≡ Some k → (n + 1 < k) × (k ≤ (n + 1) + length (numbered (n + 1) names))) → (b : Bool) → cond b (Some (n + 1)) (find key_cmp t (numbered (n + 1) names)) ≡ Some k → (n < k) × (k ≤ n + suc (length (numbered (n + 1) names)))
    go rest true f = let g : n + 1 ≡ k = some_is f in (omega arith, omega arith)
    go rest false f = let g = rest f in let g0 = g.0 in let g1 = g.1 in (omega arith, omega arith)

-- a number is one name's
pub number_apart : (n : ℕ) (names : List Key) (t u : Key) (k : ℕ) → find key_cmp t (numbered n names) ≡ Some k → find key_cmp u (numbered n names) ≡ Some k → t ≡ u
number_apart n [] t u k e f = none_some e
number_apart n (name ∷ names) t u k e f = go (number_apart (n + 1) names t u k) (eq_by_cmp key_cmp t name) (eq_by_cmp key_cmp u name) refl refl e f
  where
    named : (x : Key) → eq_by_cmp key_cmp x name ≡ true → x ≡ name
    named x q = key_same x name (order (key_cmp x name) q)
      where
        order : (o : Ordering) → is_eq o ≡ true → o ≡ Equal
        order Less q = false_true q
        order Equal q = refl
        order Greater q = false_true q

    later : {X : Type 0} (x : Key) → n + 1 ≡ k → find key_cmp x (numbered (n + 1) names) ≡ Some k → X
    later x g h = let l = (number_in (n + 1) names x k h).0 in absurd (omega arith)

    go : (find key_cmp t (numbered (n + 1) names) ≡ Some k → find key_cmp u (numbered (n + 1) names) ≡ Some k → t ≡ u) → (a b : Bool) → eq_by_cmp key_cmp t name ≡ a → eq_by_cmp key_cmp u name ≡ b
        → cond a (Some (n + 1)) (find key_cmp t (numbered (n + 1) names)) ≡ Some k → cond b (Some (n + 1)) (find key_cmp u (numbered (n + 1) names)) ≡ Some k → t ≡ u
    go rest true true p q g h = named t p ∙ sym (named u q)
    go rest true false p q g h = later u (some_is g) h
    go rest false true p q g h = later t (some_is h) g
    go rest false false p q g h = rest g h

pub some_there : {X : Type 0} (o : Option X) → is_some o ≡ true → (x : X) × (o ≡ Some x)
some_there None e = false_true e
some_there (Some x) e = (x, refl)

-- the name of the default tree is the one that the constant has
pub default_is : DEFAULT_TREE.now ≡ default_name
unfolding default_name
default_is = refl

-- the same of the default tree, whose name is known by its bytes
pub has_default : {a b : Store} (k : Key) → k ≡ DEFAULT_TREE.now → HasTree k a b → HasTree default_name a b
has_default {a} {b} k e h = subst (λ z. HasTree z a b) (e ∙ default_is) h

pub refused_default : {a b : Store} {e : Error} (k : Key) → k ≡ DEFAULT_TREE.now → RefusesTree k a e b → RefusesTree default_name a e b
refused_default {a} {b} {e} k is r = subst (λ z. RefusesTree z a e b) (is ∙ default_is) r

-- the trees of a store are numbered
module _ (s : Store) {trees : List (Key × ℕ)} (all : AreNumbered (now s) trees) where
  pub is_number : (t : Key) → is_some (numbers_of trees t) ≡ is_some ((now s).roots t)
  is_number t = ap (λ l. is_some (find key_cmp t l)) all.is ∙ found_same 0 all.roots t ∙ ap is_some (sym (all.all.is t))

  pub ascends : is_sorted key_cmp trees ≡ true
  ascends = ap (is_sorted key_cmp) all.is ∙ sorted_same 0 all.roots ∙ all.all.ascends

  in_all : (t : Key) (n : ℕ) → numbers_of trees t ≡ Some n → find key_cmp t (numbered 0 (names_in all.roots)) ≡ Some n
  in_all t n e = ap (find key_cmp t) (sym all.is) ∙ e

  pub moment_here : (given : ℕ) → given ≡ length trees → AreGiven s → (w : Forest) → WellFormed (nodes_of (now s)) (now s).roots w → HasForest (snapshot_of s (numbers_of trees) (given_to given)) w
  moment_here given count are w f = store_moment s (numbers_of trees) (given_to given) w are
      (λ t r e. some_there (numbers_of trees t) (is_number t ∙ ap is_some e))
      (λ t n e. some_there ((now s).roots t) (sym (is_number t) ∙ ap is_some e))
      (λ t n e. let b = number_in 0 (names_in all.roots) t n (in_all t n e) in within n (length (numbered 0 (names_in all.roots))) given b.0 b.1 (count ∙ ap length all.is))
      (λ t u n e g. number_apart 0 (names_in all.roots) t u n (in_all t n e) (in_all u n g))
      f
    where
      within : (n m given : ℕ) → 0 < n → n ≤ 0 + m → given ≡ m → given_to given n ≡ true
      within n m given p q e = grind (arith, nat_tests)

  pub opened_db : {P M : Type 0} (store : P → Store) (d : DbValue P M) → d.trees ≡ trees → d.trees_given ≡ length trees → d.operators ≡ [] → Becomes no_queues 0 d.queues → d.greatest_id ≡ (store d.pages).mark → AreGiven s → (a : Store) → HasTree default_name a s → store d.pages ≡ after_flush s → IsDb store d
  opened_db store d same count operators queues ids are a h e =
      let well = h.again.well in record {
        forest = well.forest;
        is = subst (λ (m : Snapshot). HasForest m well.forest) (sym at) (moment_here d.trees_given count are well.forest well.formed);
        sized = subst (λ (m : Snapshot). IsSized (nodes_at m) well.forest) (sym at) well.sized;
        safe = subst IsCrashConsistent (sym e) (flushes_valid_law s (after_flush s) (flushes_same s) h.again.no_group well);
        ascends = ap (is_sorted key_cmp) same ∙ ascends;
        default = subst (λ ts. (n : ℕ) × (numbers_of ts default_name ≡ Some n)) (sym same) (some_there (numbers_of trees default_name) (is_number default_name ∙ there));
        ungiven = λ n above. ap (find nat_cmp n) operators;
        calm = record { none = λ n w there. unqueued (sym (ap (λ (q : Waitings). q n) queues.held) ∙ there) };
        ids = at_most d.greatest_id (store d.pages).mark ids;
      }
    where
      at_most : (x y : ℕ) → x ≡ y → x ≤ y
      at_most x y e = omega arith

      unqueued : {X : Type 0} {w : WaitingValue} → None ≡ Some w → X
      unqueued e = cc

      at : snapshot_of_db store d ≡ snapshot_of s (numbers_of trees) (given_to d.trees_given)
      at = λ i. snapshot_of (e i) (numbers_of (same i)) (given_to d.trees_given)

      maps : trees_of (now s) default_name ≡ or_empty (trees_of (now a) default_name)
      maps = ap (λ (m : Maps). m default_name) h.maps ∙ ap (λ b. cond b (or_empty (trees_of (now a) default_name)) (trees_of (now a) default_name)) (Rattle.sled_store.specs.theory.Facts.name_itself default_name)

      full : (o : Option Map) → is_some (or_empty o) ≡ true
      full None = refl
      full (Some m) = refl

      mapped : (o : Option ℕ) → is_some (option_map (Rattle.tree_laws.specs.Contents.pairs_under (nodes_of (now s))) o) ≡ is_some o
      mapped None = refl
      mapped (Some r) = refl

      there : is_some ((now s).roots default_name) ≡ true
      there = sym (mapped ((now s).roots default_name)) ∙ ap is_some maps ∙ full (trees_of (now a) default_name)

-- the database that is opened
pub opens : {P M : Type 0} (store : P → Store) (a s : Store) (called : Key) (d : DbValue P M) → HasTree default_name a s → AreNumbered (now s) d.trees → store d.pages ≡ after_flush s
    → d.trees_given ≡ length d.trees → d.greatest_id ≡ (store d.pages).mark → d.operators ≡ [] → Becomes no_queues 0 d.queues → d.name ≡ called → Opens store a called d
opens store a s called d h all e given ids operators queues name = record {
  middle = s;
  grows = h.grows;
  flushes = subst (λ (z : Store). Flushes s z) (sym e) (flushes_same s);
  left = subst (λ (z : Store). crash_states z ≡ now z ∷ []) (sym e) (flushes_left (flushes_same s) h.again.no_group);
  maps = ap (λ (z : Store). trees_of (now z)) e ∙ h.maps;
  fresh = λ none. subst (λ (z : Store). IsOnePage (now z) default_name) (sym e) (h.fresh none);
  names = names_in all.roots;
  numbers = all.is;
  ascends = ascends s all;
  each = λ t. is_number s all t ∙ sym (mapped (now s) t) ∙ ap (λ (z : Store). is_some (trees_of (now z) t)) (sym e);
  given = given;
  ids = ids ∙ mark;
  operators = operators;
  queues = queues;
  no_group = ap (λ (z : Store). (now z).in_group) e ∙ h.again.no_group;
  name = name;
  mark = mark;
  recovered = ap (λ (z : Store). z.recovered) e ∙ h.again.recovered;
  readable = ap (λ (z : Store). z.is_readable) e ∙ h.again.readable;
  faults = ap (λ (z : Store). z.faults) e ∙ h.faults;
}
  where
    mark : (store d.pages).mark ≡ a.mark
    mark = ap (λ (z : Store). z.mark) e ∙ h.again.mark

    mapped : (x : State) (t : Key) → is_some (trees_of x t) ≡ is_some (x.roots t)
    mapped x t = go (x.roots t)
      where
        go : (o : Option ℕ) → is_some (option_map (Rattle.tree_laws.specs.Contents.pairs_under (nodes_of x)) o) ≡ is_some o
        go None = refl
        go (Some r) = refl
