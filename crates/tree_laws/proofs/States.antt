-- From the nodes to the pages with versions.
use Rattle.std.proofs.Common.{◌≡◌, ◌≢◌, ◌<◌, ◌^◌, ◌⊎◌, ℕ, Bool, true, false, cond, List, [], ◌∷◌, nat_eq, Option, Some, None, option_map, sym, refl, ap, ◌∙◌, subst, inl, inr}
use Rattle.sled_nodes.proofs.Basics.{none_some, some_is, same_or_not}
use Rattle.sled_store.specs.In.{In}
use Rattle.sled_store.specs.State.{Nodes, State, RootBecomes, nodes_of, after}
use Rattle.sled_store.specs.Update.{put_at, put_name}
use Rattle.sled_store.specs.theory.Facts.{put_here, put_elsewhere, put_name_here, put_name_elsewhere}
use Rattle.sled_nodes.specs.declared.node.Node.{Node}
use Rattle.sled_store.specs.declared.page.Page.{Page}
use Rattle.tree_laws.specs.theory.Action.{put_node}
use Rattle.tree_laws.specs.Forest.{Tree, Forest, Place, WellFormed, IsSized, contents}
use Rattle.tree_laws.specs.Snapshot.{Snapshot, HasForest, nodes_at, IsOrphan}
use Rattle.tree_laws.specs.theory.Snapshot.{KeepsNodes, GrowsByReceiving}
use Rattle.tree_laws.specs.theory.Laws.{ReplaceLaw, AllocateLaw, FreeLaw, PlantedLaw, HoistedLaw, DroppedLaw, Rooted, StepsForest, after_replacement, after_free, after_creation, after_hoist, after_drop}
use Rattle.tree_laws.proofs.Outside.{outside_kept, outside_contents, outside_keeps, outside_sized, outside_grows}
use Rattle.tree_laws.proofs.Replace.{same_tree, not_both}

-- one more page, seen as nodes
nodes_put : (f : ℕ → Option Page) (p : ℕ) (o : Option Page) → (λ (q : ℕ). option_map (λ (g : Page). g.node) (put_at f p o q)) ≡ put_at (λ q. option_map (λ (g : Page). g.node) (f q)) p (option_map (λ (g : Page). g.node) o)
nodes_put f p o = λ i q. at q i
  where
    at : (q : ℕ) → option_map (λ (g : Page). g.node) (put_at f p o q) ≡ put_at (λ q. option_map (λ (g : Page). g.node) (f q)) p (option_map (λ (g : Page). g.node) o) q
    at q = elim (nat_eq q p) as (λ b. option_map (λ (g : Page). g.node) (cond b o (f q)) ≡ cond b (option_map (λ (g : Page). g.node) o) (option_map (λ (g : Page). g.node) (f q))) [ true ↦ refl | false ↦ refl ]

-- what was true stays so
pub stays_true : (f : ℕ → Bool) (v q : ℕ) → f q ≡ true → put_at f v true q ≡ true
stays_true f v q e = elim (nat_eq q v) as (λ b. cond b true (f q) ≡ true) [ true ↦ refl | false ↦ e ]

-- where a page is put, each page is that one or was there
put_cases : (f : ℕ → Option Page) (p : ℕ) (g : Page) (q : ℕ) (h : Page) → put_at f p (Some g) q ≡ Some h → ((q ≡ p) × (h ≡ g)) ⊎ (f q ≡ Some h)
put_cases f p g q h e = elim (same_or_not q p) [
  | inl a ↦ inl (a, some_is (sym e ∙ ap (put_at f p (Some g)) a ∙ put_here f p (Some g)))
  | inr a ↦ inr (sym (put_elsewhere f p q (Some g) a) ∙ e)
]

page_versions : (m : Snapshot) (w : Forest) → HasForest m w → (p : ℕ) (g : Page) (q : ℕ) (h : Page) → put_at m.state.pages p (Some g) q ≡ Some h → put_at m.versions g.version true h.version ≡ true
page_versions m w is p g q h e = elim (put_cases m.state.pages p g q h e) [
  | inl a ↦ ap (λ (z : Page). put_at m.versions g.version true z.version) a.1 ∙ put_here m.versions g.version true
  | inr a ↦ stays_true m.versions g.version h.version (is.versions q h a)
]

page_fresh : (m : Snapshot) (p : ℕ) (g : Page) → m.versions g.version ≡ false → (q : ℕ) (h : Page) → put_at m.state.pages p (Some g) q ≡ Some h → (m.state.pages q ≡ Some h) ⊎ (m.versions h.version ≡ false)
page_fresh m p g fresh q h e = elim (put_cases m.state.pages p g q h e) [ inl a ↦ inr (ap (λ (z : Page). m.versions z.version) a.1 ∙ fresh) | inr a ↦ inl a ]

pub replace_law : ReplaceLaw
replace_law mine m w v p g new is live not_merging fresh owner formed keeps =
    let s = m.state in
    let same : put_node (nodes_at m) p new.node ≡ nodes_at (after_replacement m p new) = sym (nodes_put s.pages p (Some new)) in
    record {
      is = record {
        pids = λ q h e. elim (put_cases s.pages p new q h e) [ inl a ↦ ap m.pids a.0 ∙ is.pids p g live | inr a ↦ is.pids q h a ];
        versions = page_versions m w is p new;
        below = λ q h e. elim (put_cases s.pages p new q h e) [ inl a ↦ subst (λ z. z < 2 ^ 64) (sym a.0) (is.below p g live) | inr a ↦ is.below q h a ];
        numbered = is.numbered;
        rooted = is.rooted;
        given = is.given;
        apart = is.apart;
        formed = subst (λ (z : Nodes). WellFormed z s.roots v) same formed;
      };
      goes = record {
        pids = λ q e. e;
        versions = λ q e. stays_true m.versions new.version q e;
        given = λ n e. e;
        gone = λ q e none. elim (same_or_not q p) [
          | inl a ↦ none_some (sym none ∙ ap s.pages a ∙ live)
          | inr a ↦ put_elsewhere s.pages p q (Some new) a ∙ none
        ];
        fresh = page_fresh m p new fresh;
        lasts = λ t n o e. e;
        dropped = λ t n e no. no;
        loses = λ t e. none_some e;
        rooted = λ t r e. inl e;
        own = λ q stray off. elim (same_or_not q p) [
          | inl a ↦ elim owner [ inl b ↦ absurd (stray b.0 (ap w.home a ∙ b.1)) | inr b ↦ absurd (off (subst (λ z. In z mine) (sym a) b)) ]
          | inr a ↦ put_elsewhere s.pages p q (Some new) a
        ];
        frozen = λ q h e t. elim (same_or_not q p) [
          | inl a ↦ not_both g.node.merging not_merging (ap (λ (z : Page). z.node.merging) (some_is (sym live ∙ ap s.pages (sym a) ∙ e)) ∙ t)
          | inr a ↦ inl (put_elsewhere s.pages p q (Some new) a ∙ e)
        ];
        keeps = subst (λ (z : Nodes). KeepsNodes mine None (nodes_at m) z w v) same keeps;
      };
    }

-- a page with no place is put or taken
module _ (m : Snapshot) (w : Forest) (p : ℕ) (o : Option Page) (is : HasForest m w) (stray : IsOrphan w p) where
  off : (q : ℕ) (x : Place) → w.home q ≡ Some x → put_at (nodes_at m) p (option_map (λ (g : Page). g.node) o) q ≡ nodes_at m q
  off q x e = put_elsewhere (nodes_at m) p q _ (λ a. stray x (ap w.home (sym a) ∙ e))

  abbrev nodes_then : Nodes
  nodes_then = λ q. option_map (λ (g : Page). g.node) (put_at m.state.pages p o q)

  pub put_formed : WellFormed nodes_then m.state.roots w
  put_formed = subst (λ (z : Nodes). WellFormed z m.state.roots w) (sym (nodes_put m.state.pages p o)) (outside_kept (nodes_at m) _ m.state.roots w off is.formed)

  pub put_contents : (t : Tree) → contents nodes_then w t ≡ contents (nodes_at m) w t
  put_contents t = ap (λ (z : Nodes). contents z w t) (nodes_put m.state.pages p o) ∙ outside_contents (nodes_at m) _ m.state.roots w off is.formed t

  pub put_sized : IsSized (nodes_at m) w → IsSized nodes_then w
  put_sized z = subst (λ (z : Nodes). IsSized z w) (sym (nodes_put m.state.pages p o)) (outside_sized (nodes_at m) _ m.state.roots w off is.formed z)

  pub put_grows : GrowsByReceiving (nodes_at m) nodes_then w
  put_grows = subst (λ (z : Nodes). GrowsByReceiving (nodes_at m) z w) (sym (nodes_put m.state.pages p o)) (outside_grows (nodes_at m) _ m.state.roots w off is.formed)

  pub put_keeps : (mine : List ℕ) → ((q : ℕ) → q ≡ p → ¬ (In q mine) → put_at (nodes_at m) p (option_map (λ (g : Page). g.node) o) q ≡ nodes_at m q)
      → ((n : Node) → nodes_at m p ≡ Some n → option_map (λ (g : Page). g.node) o ≡ None)
      → KeepsNodes mine None (nodes_at m) nodes_then w w
  put_keeps mine own gone = subst (λ (z : Nodes). KeepsNodes mine None (nodes_at m) z w w) (sym (nodes_put m.state.pages p o))
      (outside_keeps (nodes_at m) _ m.state.roots w off is.formed mine None
      (λ q u k. elim (same_or_not q p) [ inl a ↦ own q a k | inr a ↦ put_elsewhere (nodes_at m) p q _ a ])
      (λ q n live. elim (same_or_not q p) [
        | inl a ↦ inr (ap (put_at (nodes_at m) p _) a ∙ put_here (nodes_at m) p _ ∙ gone n (ap (nodes_at m) (sym a) ∙ live))
        | inr a ↦ inl (put_elsewhere (nodes_at m) p q _ a ∙ live)
      ]))

no_page_yet : (m : Snapshot) (w : Forest) (p : ℕ) → HasForest m w → m.pids p ≡ false → m.state.pages p ≡ None
no_page_yet m w p is e = go (m.state.pages p) refl
  where
    go : (o : Option Page) → m.state.pages p ≡ o → o ≡ None
    go None h = refl
    go (Some g) h = not_both (m.pids p) e (is.pids p g h)

pub allocate_law : AllocateLaw
allocate_law m w p g is new fresh small =
    let s = m.state in
    let none : s.pages p ≡ None = no_page_yet m w p is new in
    let none_node : nodes_at m p ≡ None = ap (option_map (λ (g : Page). g.node)) none in
    let stray : IsOrphan w p = λ x e. let h = is.formed.page x p e in none_some (sym none_node ∙ h.1.live) in (
      record {
        is = record {
          pids = λ q h e. elim (put_cases s.pages p g q h e) [ inl a ↦ ap (put_at m.pids p true) a.0 ∙ put_here m.pids p true | inr a ↦ stays_true m.pids p q (is.pids q h a) ];
          versions = page_versions m w is p g;
          below = λ q h e. elim (put_cases s.pages p g q h e) [ inl a ↦ subst (λ z. z < 2 ^ 64) (sym a.0) small | inr a ↦ is.below q h a ];
          numbered = is.numbered;
          rooted = is.rooted;
          given = is.given;
          apart = is.apart;
          formed = put_formed m w p (Some g) is stray;
        };
        goes = record {
          pids = λ q e. stays_true m.pids p q e;
          versions = λ q e. stays_true m.versions g.version q e;
          given = λ n e. e;
          gone = λ q e no. elim (same_or_not q p) [
            | inl a ↦ not_both (m.pids p) new (ap m.pids (sym a) ∙ e)
            | inr a ↦ put_elsewhere s.pages p q (Some g) a ∙ no
          ];
          fresh = page_fresh m p g fresh;
          lasts = λ t n o e. e;
          dropped = λ t n e no. no;
          loses = λ t e. none_some e;
          rooted = λ t r e. inl e;
          own = λ q u k. elim (same_or_not q p) [ inl a ↦ absurd (k (inl a)) | inr a ↦ put_elsewhere s.pages p q (Some g) a ];
          frozen = λ q h e t. elim (same_or_not q p) [ inl a ↦ none_some (sym none ∙ ap s.pages (sym a) ∙ e) | inr a ↦ inl (put_elsewhere s.pages p q (Some g) a ∙ e) ];
          keeps = put_keeps m w p (Some g) is stray (p ∷ []) (λ q a k. absurd (k (inl a))) (λ n live. none_some (sym none_node ∙ live));
        };
      },
      stray,
      put_contents m w p (Some g) is stray,
      put_sized m w p (Some g) is stray,
      put_grows m w p (Some g) is stray,
    )

pub free_law : FreeLaw
free_law m w p is stray =
    let s = m.state in (
      record {
        is = record {
          pids = λ q h e. elim (same_or_not q p) [
            | inl a ↦ none_some (sym (ap (put_at s.pages p None) a ∙ put_here s.pages p None) ∙ e)
            | inr a ↦ is.pids q h (sym (put_elsewhere s.pages p q None a) ∙ e)
          ];
          versions = λ q h e. elim (same_or_not q p) [
            | inl a ↦ none_some (sym (ap (put_at s.pages p None) a ∙ put_here s.pages p None) ∙ e)
            | inr a ↦ is.versions q h (sym (put_elsewhere s.pages p q None a) ∙ e)
          ];
          below = λ q h e. elim (same_or_not q p) [
            | inl a ↦ none_some (sym (ap (put_at s.pages p None) a ∙ put_here s.pages p None) ∙ e)
            | inr a ↦ is.below q h (sym (put_elsewhere s.pages p q None a) ∙ e)
          ];
          numbered = is.numbered;
          rooted = is.rooted;
          given = is.given;
          apart = is.apart;
          formed = put_formed m w p None is stray;
        };
        goes = record {
          pids = λ q e. e;
          versions = λ q e. e;
          given = λ n e. e;
          gone = λ q e no. elim (same_or_not q p) [ inl a ↦ ap (put_at s.pages p None) a ∙ put_here s.pages p None | inr a ↦ put_elsewhere s.pages p q None a ∙ no ];
          fresh = λ q h e. elim (same_or_not q p) [
            | inl a ↦ none_some (sym (ap (put_at s.pages p None) a ∙ put_here s.pages p None) ∙ e)
            | inr a ↦ inl (sym (put_elsewhere s.pages p q None a) ∙ e)
          ];
          lasts = λ t n o e. e;
          dropped = λ t n e no. no;
          loses = λ t e. none_some e;
          rooted = λ t r e. inl e;
          own = λ q u k. elim (same_or_not q p) [ inl a ↦ absurd (k (inl a)) | inr a ↦ put_elsewhere s.pages p q None a ];
          frozen = λ q h e t. elim (same_or_not q p) [ inl a ↦ inr (ap (put_at s.pages p None) a ∙ put_here s.pages p None) | inr a ↦ inl (put_elsewhere s.pages p q None a ∙ e) ];
          keeps = put_keeps m w p None is stray (p ∷ []) (λ q a k. absurd (k (inl a))) (λ n live. refl);
        };
      },
      put_contents m w p None is stray,
      put_sized m w p None is stray,
      put_grows m w p None is stray,
    )

-- an action on a root alone: what it does to the names and their numbers is told apart
module _ (mine : List ℕ) (lost : Option Tree) (m new : Snapshot) (w : Forest) (t : Tree) (root : Option ℕ) (is : HasForest m w) (u : Rooted mine lost (nodes_at m) m.state.roots w t root) where
  rooted_steps : new.state ≡ after (RootBecomes t root) m.state → new.pids ≡ m.pids → new.versions ≡ m.versions
      → ((n : ℕ) → m.given n ≡ true → new.given n ≡ true)
      → ((z : Tree) (r : ℕ) → put_name m.state.roots t root z ≡ Some r → (n : ℕ) × (new.numbers z ≡ Some n))
      → ((z : Tree) (n : ℕ) → new.numbers z ≡ Some n → (r : ℕ) × (put_name m.state.roots t root z ≡ Some r))
      → ((z : Tree) (n : ℕ) → new.numbers z ≡ Some n → new.given n ≡ true)
      → ((z y : Tree) (n : ℕ) → new.numbers z ≡ Some n → new.numbers y ≡ Some n → z ≡ y)
      → ((z : Tree) (n : ℕ) → lost ≢ Some z → m.numbers z ≡ Some n → new.numbers z ≡ Some n)
      → ((z : Tree) (n : ℕ) → m.given n ≡ true → m.numbers z ≢ Some n → new.numbers z ≢ Some n)
      → ((z : Tree) → lost ≡ Some z → new.numbers z ≡ None)
      → ((r : ℕ) → root ≡ Some r → IsOrphan w r × ((n : Node) × (nodes_at m r ≡ Some n) × (n.merging ≡ false)))
      → StepsForest mine lost m w new u.after
  rooted_steps state pids versions given numbered rooted of apart lasts gone loses fresh =
      let pages : (q : ℕ) → new.state.pages q ≡ m.state.pages q = λ q. ap (λ (z : State). z.pages q) state in
      let nodes : nodes_at new ≡ nodes_at m = ap nodes_of state in
      let roots : new.state.roots ≡ put_name m.state.roots t root = ap (λ (z : State). z.roots) state in
      record {
        is = record {
          pids = λ q g e. ap (λ f. f q) pids ∙ is.pids q g (sym (pages q) ∙ e);
          versions = λ q g e. ap (λ f. f g.version) versions ∙ is.versions q g (sym (pages q) ∙ e);
          below = λ q g e. is.below q g (sym (pages q) ∙ e);
          numbered = λ z r e. numbered z r (sym (ap (λ f. f z) roots) ∙ e);
          rooted = λ z n e. let a = rooted z n e in (a.0, ap (λ f. f z) roots ∙ a.1);
          given = of;
          apart = apart;
          formed = subst (λ f. WellFormed (nodes_at new) f u.after) (sym roots) (subst (λ f. WellFormed f (put_name m.state.roots t root) u.after) (sym nodes) u.kept);
        };
        goes = record {
          pids = λ q e. ap (λ f. f q) pids ∙ e;
          versions = λ q e. ap (λ f. f q) versions ∙ e;
          given = given;
          gone = λ q e none. pages q ∙ none;
          fresh = λ q g e. inl (sym (pages q) ∙ e);
          lasts = lasts;
          dropped = gone;
          loses = loses;
          rooted = λ z r e. elim (same_tree z t) [
            | inl a ↦ inr (fresh r (sym (put_name_here m.state.roots t root) ∙ ap (put_name m.state.roots t root) (sym a) ∙ sym (ap (λ f. f z) roots) ∙ e))
            | inr a ↦ inl (sym (put_name_elsewhere m.state.roots t z root a) ∙ sym (ap (λ f. f z) roots) ∙ e)
          ];
          own = λ q stray off. pages q;
          frozen = λ q h e t. inl (pages q ∙ e);
          keeps = subst (λ f. KeepsNodes mine lost (nodes_at m) f w u.after) (sym nodes) u.keeps;
        };
      }

pub planted_law : PlantedLaw
planted_law m w t r number n is none free stray not_merging live u =
    let unnamed : m.numbers t ≡ None = no_number (m.numbers t) refl in
    let fresh : (z : Tree) (k : ℕ) → m.numbers z ≡ Some k → k ≢ number = λ z k e a. not_both (m.given number) free (ap m.given (sym a) ∙ is.given z k e) in
    let old : (z : Tree) (k : ℕ) → put_name m.numbers t (Some number) z ≡ Some k → ((z ≡ t) × (k ≡ number)) ⊎ ((z ≢ t) × (m.numbers z ≡ Some k)) =
    λ z k e. elim (same_tree z t) [
      | inl a ↦ inl (a, some_is (sym e ∙ ap (put_name m.numbers t (Some number)) a ∙ put_name_here m.numbers t (Some number)))
      | inr a ↦ inr (a, sym (put_name_elsewhere m.numbers t z (Some number) a) ∙ e)
    ] in
    rooted_steps (r ∷ []) None m (after_creation m t r number) w t (Some r) is u refl refl refl
    (λ k e. stays_true m.given number k e)
    (λ z q e. elim (same_tree z t) [
      | inl a ↦ (number, ap (put_name m.numbers t (Some number)) a ∙ put_name_here m.numbers t (Some number))
      | inr a ↦ let b = is.numbered z q (sym (put_name_elsewhere m.state.roots t z (Some r) a) ∙ e) in (b.0, put_name_elsewhere m.numbers t z (Some number) a ∙ b.1)
    ])
    (λ z k e. elim (old z k e) [
      | inl a ↦ (r, ap (put_name m.state.roots t (Some r)) a.0 ∙ put_name_here m.state.roots t (Some r))
      | inr a ↦ let b = is.rooted z k a.1 in (b.0, put_name_elsewhere m.state.roots t z (Some r) a.0 ∙ b.1)
    ])
    (λ z k e. elim (old z k e) [
      | inl a ↦ ap (put_at m.given number true) a.1 ∙ put_here m.given number true
      | inr a ↦ stays_true m.given number k (is.given z k a.1)
    ])
    (λ z y k e g. elim (old z k e) [
      | inl a ↦ elim (old y k g) [ inl b ↦ a.0 ∙ sym b.0 | inr b ↦ absurd (fresh y k b.1 a.1) ]
      | inr a ↦ elim (old y k g) [ inl b ↦ absurd (fresh z k a.1 b.1) | inr b ↦ is.apart z y k a.1 b.1 ]
    ])
    (λ z k o e. put_name_elsewhere m.numbers t z (Some number) (λ a. none_some (sym unnamed ∙ ap m.numbers (sym a) ∙ e)) ∙ e)
    (λ z k given no e. elim (old z k e) [
      | inl a ↦ not_both (m.given number) free (ap m.given (sym a.1) ∙ given)
      | inr a ↦ no a.1
    ])
    (λ z e. none_some e)
    (λ q e. (subst (λ z. IsOrphan w z) (some_is e) stray, (n, ap (nodes_at m) (sym (some_is e)) ∙ live, not_merging)))
  where
    no_number : (o : Option ℕ) → m.numbers t ≡ o → o ≡ None
    no_number None e = refl
    no_number (Some k) e = let a = is.rooted t k e in none_some (sym none ∙ a.1)

pub hoisted_law : HoistedLaw
hoisted_law m w t left r n is root stray not_merging live u =
    let old : (z : Tree) (k : ℕ) → put_name m.state.roots t (Some r) z ≡ Some k → (j : ℕ) × (m.state.roots z ≡ Some j) =
    λ z k e. elim (same_tree z t) [ inl a ↦ (left, ap m.state.roots a ∙ root) | inr a ↦ (k, sym (put_name_elsewhere m.state.roots t z (Some r) a) ∙ e) ] in
    rooted_steps (r ∷ []) None m (after_hoist m t r) w t (Some r) is u refl refl refl
    (λ k e. e)
    (λ z q e. let b = old z q e in is.numbered z b.0 b.1)
    (λ z k e. elim (same_tree z t) [
      | inl a ↦ (r, ap (put_name m.state.roots t (Some r)) a ∙ put_name_here m.state.roots t (Some r))
      | inr a ↦ let b = is.rooted z k e in (b.0, put_name_elsewhere m.state.roots t z (Some r) a ∙ b.1)
    ])
    is.given
    is.apart
    (λ z k o e. e)
    (λ z k given no e. no e)
    (λ z e. none_some e)
    (λ q e. (subst (λ z. IsOrphan w z) (some_is e) stray, (n, ap (nodes_at m) (sym (some_is e)) ∙ live, not_merging)))

pub dropped_law : DroppedLaw
dropped_law m w t is u =
    let old : (z : Tree) (k : ℕ) → put_name m.numbers t None z ≡ Some k → (z ≢ t) × (m.numbers z ≡ Some k) =
    λ z k e. elim (same_tree z t) [
      | inl a ↦ none_some (sym (ap (put_name m.numbers t None) a ∙ put_name_here m.numbers t None) ∙ e)
      | inr a ↦ (a, sym (put_name_elsewhere m.numbers t z None a) ∙ e)
    ] in
    rooted_steps [] (Some t) m (after_drop m t) w t None is u refl refl refl
    (λ k e. e)
    (λ z q e. elim (same_tree z t) [
      | inl a ↦ none_some (sym (ap (put_name m.state.roots t None) a ∙ put_name_here m.state.roots t None) ∙ e)
      | inr a ↦ let b = is.numbered z q (sym (put_name_elsewhere m.state.roots t z None a) ∙ e) in (b.0, put_name_elsewhere m.numbers t z None a ∙ b.1)
    ])
    (λ z k e. let a = old z k e in let b = is.rooted z k a.1 in (b.0, put_name_elsewhere m.state.roots t z None a.0 ∙ b.1))
    (λ z k e. is.given z k (old z k e).1)
    (λ z y k e g. is.apart z y k (old z k e).1 (old y k g).1)
    (λ z k o e. put_name_elsewhere m.numbers t z None (λ a. o (ap Some (sym a))) ∙ e)
    (λ z k given no e. no (old z k e).1)
    (λ z e. ap (put_name m.numbers t None) (sym (some_is e)) ∙ put_name_here m.numbers t None)
    (λ q e. none_some e)

pub nodes_replaced : (m : Snapshot) (p : ℕ) (g : Page) → nodes_at (after_replacement m p g) ≡ put_node (nodes_at m) p g.node
nodes_replaced m p g = nodes_put m.state.pages p (Some g)

pub nodes_freed : (m : Snapshot) (p : ℕ) → nodes_at (after_free m p) ≡ put_at (nodes_at m) p None
nodes_freed m p = nodes_put m.state.pages p None
