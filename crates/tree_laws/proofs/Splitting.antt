-- The steps of a split, of a hoist, and of a free.
use Rattle.std.proofs.Common.{◌≡◌, ℕ, suc, ◌+◌, ◌<◌, ◌≤◌, ◌^◌, false, List, [], ◌∷◌, length, Some, None, option_map, sym, refl, ap, ◌∙◌, subst, inl, inr, ◌⊎◌, le_of_eq, append-nil, arith}
use Rattle.std.specs.FinMap.Entries.{put}
use Rattle.sled_nodes.proofs.Basics.{some_is}
use Rattle.sled_store.specs.In.{In}
use Rattle.sled_store.specs.theory.Facts.{put_here, put_elsewhere}
use Rattle.sled_nodes.specs.Node.{Covers, count}
use Rattle.sled_nodes.specs.Order.{key_cmp, Below}
use Rattle.sled_nodes.specs.Halves.{right_half}
use Rattle.sled_nodes.specs.Posting.{with_pointer}
use Rattle.sled_nodes.specs.declared.node.Node.{Node}
use Rattle.sled_nodes.specs.declared.node.Data.TheVariants.{Index}
use Rattle.sled_store.specs.declared.page.Page.{Page}
use Rattle.tree_laws.specs.Forest.{Tree, Forest, Place, place, IsSized, contents}
use Rattle.tree_laws.specs.theory.Action.{put_node}
use Rattle.sled_store.specs.declared.page.View.{View}
use Rattle.tree_laws.specs.Snapshot.{Snapshot, HasForest, nodes_at, StoodInChain, IsAtVersion, SeenOpen}
use Rattle.tree_laws.specs.theory.Snapshot.{Guarantee, GrowsByReceiving, KeepsForest}
use Rattle.tree_laws.specs.theory.Laws.{IsNodeNow, IsAlone, after_replacement, after_allocation}
use Rattle.tree_laws.specs.theory.PageLaws.{IsOpenAt, Unseen}
use Rattle.tree_laws.specs.Stages.{IsPlace, IsOwn}
use Rattle.tree_laws.specs.theory.StageLaws.{StageActionLaw, SplitAction, posts_half, InstallLeftAction, PostAction, HoistAction, SwapRootAction, FreeAction}
use Rattle.tree_laws.specs.declared.flight.Posting.{Posting}
use Rattle.tree_laws.specs.declared.flight.Posting.TheVariants as posting
use Rattle.tree_laws.specs.declared.flight.Stage.TheVariants as stage
use Rattle.tree_laws.proofs.Order.{upto_below-trans}
use Rattle.tree_laws.proofs.Replace.{same_tree}
use Rattle.tree_laws.proofs.Inside.{inside_law}
use Rattle.tree_laws.proofs.Split.{split_law}
use Rattle.tree_laws.proofs.Post.{post_law}
use Rattle.tree_laws.proofs.Roots.{hoist_law}
use Rattle.tree_laws.proofs.Stable.{now_law}
use Rattle.tree_laws.proofs.States.{replace_law, allocate_law, free_law, hoisted_law, nodes_replaced}
use Rattle.tree_laws.proofs.Known.{fresh_node, fresh_in, seen_kept, root_in, put_few}
use Rattle.tree_laws.proofs.Halving.{halved_law}
use Rattle.tree_laws.proofs.Staying.{parent_kept, place_kept, hoisting_kept, was_fresh}

-- the page of a view, where it has the view's version still and the tree has its number
module _ {m : Snapshot} {w : Forest} {x : Place} {number : ℕ} {look : View} {node : Node} (k : SeenOpen m w x number look) (c : IsNodeNow m x.tree number look node) where
  pub current_fresh : IsAtVersion m look
  current_fresh = record { page = record { version = look.version; node = node }; live = c.page; same = refl }

  -- an open page stands in its chain
  pub open_now : IsOpenAt (nodes_at m) w x look.pid look.node
  open_now = record { chained = fresh_in k current_fresh c.named; live = fresh_node k current_fresh; is_open = k.is_open }

  -- the page is not merging
  pub awake_now : node.merging ≡ false
  awake_now = subst (λ (z : Node). z.merging ≡ false) (sym (k.view.speaks (record { version = look.version; node = node }) c.page refl)) k.is_open.not_merging

-- the node of a page that is the call's own
pub own_node : {m : Snapshot} {w : Forest} {pid version : ℕ} {n : Node} → IsOwn m w pid version n → nodes_at m pid ≡ Some n
own_node k = ap (option_map (λ (z : Page). z.node)) k.live

-- a law on the nodes, as an action
pub unseen_acts : {m : Snapshot} {w : Forest} {mine : List ℕ} {fits : Type 0} (p : ℕ) (g new : Page) → HasForest m w → m.state.pages p ≡ Some g → g.node.merging ≡ false → m.versions new.version ≡ false → ((x : Place) × (w.home p ≡ Some x)) ⊎ In p mine
    → (u : Unseen mine (nodes_at m) (put_node (nodes_at m) p new.node) m.state.roots w fits) → fits → KeepsForest mine [] m w (after_replacement m p new) u.after
unseen_acts {m} {w} {mine} p g new is live not_merging unused owner u fits =
    let s = replace_law mine m w u.after p g new is live not_merging unused owner u.kept u.keeps in
    let nodes : nodes_at (after_replacement m p new) ≡ put_node (nodes_at m) p new.node = nodes_replaced m p new in
    record {
      is = s.is;
      goes = subst (λ l. Guarantee l None m w (after_replacement m p new) u.after) (sym (append-nil mine)) s.goes;
      fresh = λ q i. absurd i;
      sized = λ z. subst (λ y. IsSized y u.after) (sym nodes) (u.sized fits z);
      grows = subst (λ y. GrowsByReceiving (nodes_at m) y w) (sym nodes) (u.grows fits);
    }

-- .. that no tree's contents show
pub unseen_same : (m : Snapshot) {w : Forest} {mine : List ℕ} {fits : Type 0} (p : ℕ) (new : Page) → (u : Unseen mine (nodes_at m) (put_node (nodes_at m) p new.node) m.state.roots w fits) → (t : Tree) → contents (nodes_at (after_replacement m p new)) u.after t ≡ contents (nodes_at m) w t
unseen_same m p new u t = ap (λ z. contents z u.after t) (nodes_replaced m p new) ∙ u.same t

-- a new page is the call's own
pub allocates : {m : Snapshot} {w : Forest} {q version : ℕ} {n : Node} → HasForest m w → m.pids q ≡ false → m.versions version ≡ false → q < 2 ^ 64
    → let new : Snapshot = after_allocation m q (record { version = version; node = n }) in KeepsForest [] (q ∷ []) m w new w × ((t : Tree) → contents (nodes_at new) w t ≡ contents (nodes_at m) w t) × IsOwn new w q version n
allocates {m} {w} {q} {version} {n} is fresh unused small =
    let g : Page = record { version = version; node = n } in
    let a = allocate_law m w q g is fresh unused small in (
      record {
        is = a.0.is;
        goes = a.0.goes;
        fresh = λ p i. elim i [ inl e ↦ inr (inl (ap m.pids e ∙ fresh)) | inr b ↦ absurd b ];
        sized = a.3;
        grows = a.4;
      },
      a.2,
      record { live = put_here m.state.pages q (Some g); stray = a.1 },
    )

-- the right half of a split is a new page
pub split_action : SplitAction
split_action m w t number aim a q version is fresh unused small many k =
    let n = allocates is fresh unused small in
    let h = halved_law a.page.node q many in
    record {
      acts = n.0;
      same = n.1;
      knows = record {
        height = k.height;
        seen = seen_kept n.0.goes (place t k.height) number a.page k.seen;
        posted = place_kept is n.0.goes t number k.height a.page a.posting k.posted;
        right = right_half a.page.node;
        own = n.2;
        split = h.split k.height k.seen.sound k.seen.is_open;
        begins = refl;
      };
    }

-- the page becomes the left half, and the right half is to be posted at the parent, or under a new root
pub shorten_action : InstallLeftAction
shorten_action m w t number aim a version node is c unused k = (u.0.after, go a.posting k.posted, (place t k.height, u.1))
  where
    here : IsOpenAt (nodes_at m) w (place t k.height) a.page.pid a.page.node
    here = open_now k.seen c

    home : w.home a.page.pid ≡ Some (place t k.height)
    home = is.formed.homed (place t k.height) a.page.pid here.chained

    u : (u : Unseen (a.right ∷ []) (nodes_at m) (put_node (nodes_at m) a.page.pid a.left) m.state.roots w (Unit {0})) × In a.right (u.after.chain (place t k.height))
    u = split_law (nodes_at m) m.state.roots w is.formed (place t k.height) a.page.pid a.right a.page.node a.left k.right here (own_node k.own) k.own.stray k.split

    acts : KeepsForest (a.right ∷ []) [] m w (after_replacement m a.page.pid (record { version = version; node = a.left })) u.0.after
    acts = unseen_acts a.page.pid _ (record { version = version; node = a.left }) is c.page (awake_now k.seen c) unused (inl (place t k.height, home)) u.0 tt

    live : nodes_at (after_replacement m a.page.pid (record { version = version; node = a.left })) a.right ≡ Some k.right
    live = ap (λ z. z a.right) (nodes_replaced m a.page.pid (record { version = version; node = a.left })) ∙ put_elsewhere (nodes_at m) a.page.pid a.right (Some a.left) (λ e. k.own.stray (place t k.height) (ap w.home e ∙ home)) ∙ own_node k.own

    same : (z : Tree) → contents (nodes_at (after_replacement m a.page.pid (record { version = version; node = a.left }))) u.0.after z ≡ contents (nodes_at m) w z
    same = unseen_same m a.page.pid (record { version = version; node = a.left }) u.0

    go : (p : Posting) → IsPlace m w t number k.height a.page p → StageActionLaw m w (after_replacement m a.page.pid (record { version = version; node = a.left })) u.0.after t number aim (stage.InstallLeft a) (posts_half a p)
    go (posting.Parent parent) b = record {
      acts = acts;
      same = same;
      knows = record {
        height = k.height;
        above = parent_kept is acts.goes t number k.height parent b.0;
        fits = b.2;
        beyond = subst (λ l. Below parent.node.lo l) k.begins (upto_below-trans parent.node.lo a.page.node.lo k.right.lo b.1.0 k.split.apart);
        under = λ named f.
            let was = was_fresh is acts.goes parent b.0.seen.view f in
            let p_in = fresh_in b.0.seen was c.named in
            let p_is = fresh_node b.0.seen was in
            record {
              covers = subst (λ l. Covers parent.node l) k.begins (inside_law (nodes_at m) m.state.roots w is.formed t k.height parent.pid a.page.pid parent.node a.page.node p_in p_is here.chained here.live b.1 k.right.lo k.split.within);
              node = k.right;
              chained = u.1;
              live = live;
              lo = k.begins;
              not_merging = k.split.calm.2;
            };
      };
    }
    go posting.Root b = record {
      acts = acts;
      same = same;
      knows = record {
        height = k.height;
        stood = subst (λ l. StoodInChain (after_replacement m a.page.pid (record { version = version; node = a.left })) u.0.after (place t k.height) number l a.page.pid) b (seen_kept acts.goes (place t k.height) number a.page k.seen).stood;
        beyond = subst (λ l. Below [] l) k.begins (subst (λ l. Below l k.right.lo) b k.split.apart);
        beside = λ named root. (k.right, u.1, live, k.begins);
      };
    }
    go posting.Nowhere b = record { acts = acts; same = same; knows = tt }

-- the pointer goes into the parent
pub post_action : PostAction
post_action m w t number aim a version node is c unused k =
    subst (λ z. (v : Forest) × StageActionLaw m w (after_replacement m a.parent.pid (record { version = version; node = record (a.parent.node) { content = z } })) v t number aim (stage.Post a) stage.Root) (sym (ap (with_pointer a.at a.pid) k.above.content))
    (subst (λ l. (v : Forest) × StageActionLaw m w (after_replacement m a.parent.pid (record { version = version; node = record (a.parent.node) { content = Index (put key_cmp l a.pid k.above.es) } })) v t number aim (stage.Post a) stage.Root) (k.under c.named (current_fresh k.above.seen c)).lo done)
  where
    room : (a b : ℕ) → a ≤ 16 → b ≤ a + 1 → b ≤ 17
    room a b p q = omega arith

    done : (v : Forest) × StageActionLaw m w (after_replacement m a.parent.pid (record { version = version; node = record (a.parent.node) { content = Index (put key_cmp (k.under c.named (current_fresh k.above.seen c)).node.lo a.pid k.above.es) } })) v t number aim (stage.Post a) stage.Root
    done =
        let here = open_now k.above.seen c in
        let d = k.under c.named (current_fresh k.above.seen c) in
        let g : Page = record { version = version; node = record (a.parent.node) { content = Index (put key_cmp d.node.lo a.pid k.above.es) } } in
        let u = post_law (nodes_at m) m.state.roots w is.formed t k.height a.parent.pid a.pid a.parent.node d.node k.above.es here k.above.content (is.formed.homed (place t k.height) a.pid d.chained) d.live d.not_merging
        (subst (λ l. Below a.parent.node.lo l) (sym d.lo) k.beyond) (subst (λ l. Covers a.parent.node l) (sym d.lo) d.covers) in
        let fits = room (length k.above.es) (length (put key_cmp d.node.lo a.pid k.above.es)) (subst (λ z. count z ≤ 16) k.above.content k.fits.fits) (put_few d.node.lo a.pid k.above.es) in
        let acts = unseen_acts a.parent.pid _ g is c.page (awake_now k.above.seen c) unused (inl (place t (suc k.height), is.formed.homed (place t (suc k.height)) a.parent.pid here.chained)) u fits in
        (u.after, record { acts = acts; same = unseen_same m a.parent.pid g u; knows = tt })

-- the new root is a new page
pub hoist_action : HoistAction
hoist_action m w t number aim a q version n is fresh unused small over k =
    let o = allocates is fresh unused small in
    record { acts = o.0; same = o.1; knows = record { at = a.at; right = a.right; hoisting = hoisting_kept is o.0.goes t number a k; root = n; over = over; own = o.2 } }

-- .. and becomes the root
pub crown_action : SwapRootAction
crown_action m w t number aim a is named root k =
    let h : ℕ = k.hoisting.height in
    let o = root_in is.formed t a.old root in
    let left_in = (now_law m w (place t h) number [] a.old k.hoisting.stood named o.1 o.3 o.5).0 in
    let d = k.hoisting.beside named root in
    let alone : IsAlone (nodes_at m) a.new k.root (Index (([], a.old) ∷ (d.0.lo, k.right) ∷ [])) = record {
      live = own_node k.own;
      lo = k.over.lo;
      hi = k.over.hi;
      next = k.over.next;
      merging = k.over.merging;
      merging_child = k.over.merging_child;
      content = k.over.content ∙ ap (λ l. Index (([], a.old) ∷ (l, k.right) ∷ [])) (sym d.3);
    } in
    let u = hoist_law (nodes_at m) m.state.roots w is.formed t h a.old k.right a.new k.root d.0 root k.own.stray left_in d.1 d.2 (subst (λ l. Below [] l) (sym d.3) k.hoisting.beyond) alone in
    let s = hoisted_law m w t a.old a.new k.root is root k.own.stray k.over.merging (own_node k.own) u.0 in (
      u.0.after,
      record {
        acts = record {
          is = s.is;
          goes = s.goes;
          fresh = λ z i. absurd i;
          sized = u.0.sized;
          grows = record { grows = λ x p n d i was now. inl (le_of_eq (ap (λ (z : Node). count z.content) (some_is (sym now ∙ was)))) };
        };
        same = λ z. elim (same_tree z t) [ inl e ↦ subst (λ y. contents (nodes_at m) u.0.after y ≡ contents (nodes_at m) w y) (sym e) u.1 | inr off ↦ u.0.others z off ];
        knows = tt;
      },
    )

-- a page that is the call's own is freed
pub free_action : FreeAction
free_action m w t number aim a is k =
    let f = free_law m w a.pid is k.own.stray in
    record { acts = record { is = f.0.is; goes = f.0.goes; fresh = λ q i. absurd i; sized = f.2; grows = f.3 }; same = f.1; knows = tt }
