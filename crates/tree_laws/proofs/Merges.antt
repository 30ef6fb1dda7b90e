-- The steps of a merge.
use Rattle.std.proofs.Common.{◌≡◌, ◌≢◌, ℕ, suc, true, false, List, [], ◌∷◌, Some, None, option_map, sym, refl, ap, ◌∙◌, subst, inl, inr}
use Rattle.sled_nodes.proofs.Basics.{none_some, some_is}
use Rattle.sled_store.specs.In.{In}
use Rattle.sled_store.specs.theory.Facts.{put_here, put_elsewhere}
use Rattle.sled_nodes.specs.Halves.{after_receiving}
use Rattle.sled_nodes.specs.Node.{pointers, after_link, after_intention}
use Rattle.sled_nodes.specs.Order.{Key, Below}
use Rattle.sled_nodes.specs.declared.node.Node.{Node}
use Rattle.sled_nodes.specs.declared.node.Data.{Data}
use Rattle.sled_nodes.specs.declared.node.Data.TheVariants.{Leaf, Index}
use Rattle.sled_nodes.specs.declared.link.Link.TheVariants.{ParentMergeIntention, ParentMergeConfirm, ChildMergeCap}
use Rattle.sled_store.specs.declared.page.Page.{Page}
use Rattle.tree_laws.specs.Forest.{Forest, Place, place, Holds}
use Rattle.tree_laws.specs.Snapshot.{Snapshot, HasForest, nodes_at, StoodInChain, IsAtVersion, SeenOpen}
use Rattle.tree_laws.specs.theory.Snapshot.{KeepsForest}
use Rattle.tree_laws.specs.theory.Laws.{after_replacement}
use Rattle.tree_laws.specs.Stages.{IsFrozen, child_of}
use Rattle.tree_laws.specs.theory.StageLaws.{StoodMergesLaw, IntendAction, ChildSeeks, ChildCaps, CapAction, SeekLaw, ReceiveAction, ReceiveLate, ConfirmAction}
use Rattle.tree_laws.proofs.Pairs.{not_below_empty}
use Rattle.tree_laws.proofs.Runs.{In-right}
use Rattle.tree_laws.proofs.Replace.{not_both}
use Rattle.tree_laws.proofs.Cover.{later_in}
use Rattle.tree_laws.proofs.Inside.{behind, reached_law, covers_itself}
use Rattle.tree_laws.proofs.Flags.{intention_law, cap_law, confirm_law}
use Rattle.tree_laws.proofs.Receive.{followed, receive_law}
use Rattle.tree_laws.proofs.Stable.{now_law}
use Rattle.tree_laws.proofs.Known.{goes_more, seen_here, view_here, stands_here, sound_at, index_high}
use Rattle.tree_laws.proofs.Halving.{joined_law, before_law}
use Rattle.tree_laws.proofs.Staying.{merging_kept, merger_kept}
use Rattle.tree_laws.proofs.Splitting.{current_fresh, open_now, awake_now, unseen_acts, unseen_same}
use Rattle.tree_laws.proofs.Walks.{rises_at, lo_now, merge_begins}

-- The intention: the parent takes the child, and the merge begins
pub intend_action : IntendAction
intend_action m w t number aim a version node is current unused k =
    let h : ℕ = k.height in
    let p : ℕ = a.parent.pid in
    let n : Node = a.parent.node in
    let next : Node = after_link (ParentMergeIntention a.child) n in
    let taken : Node = record n { merging_child = Some a.child } in
    let new : Snapshot = after_replacement m p (record { version = version; node = next }) in
    let here = open_now k.above.seen current in
    let fresh = current_fresh k.above.seen current in
    let b = before_law (suc h) n a.child a.before k.above.seen.sound k.before in
    let u = intention_law (nodes_at m) m.state.roots w is.formed t h p a.child n k.key here k.pointer in
    let acts : KeepsForest [] [] m w new u.after = unseen_acts p _ (record { version = version; node = next }) is current.page (awake_now k.above.seen current) unused (inl (place t (suc h), is.formed.homed (place t (suc h)) p here.chained)) u (k.small current.named fresh) in
    let child : next ≡ taken = ap (λ o. record n { merging_child = o }) (ap (λ d. after_intention d a.child n.merging_child) k.above.content) in
    let live : new.state.pages p ≡ Some (record { version = version; node = taken }) = put_here m.state.pages p (Some (record { version = version; node = next })) ∙ ap (λ (z : Node). Some (record { version = version; node = z })) child in
    let node_now : nodes_at new p ≡ Some taken = ap (option_map (λ (z : Page). z.node)) live in
    let stood = acts.goes.keeps.stood (place t (suc h)) p n (λ e. none_some e) here.chained here.live in
    let same : stood.0 ≡ taken = some_is (sym stood.1 ∙ node_now) in
    let chained : In p (u.after.chain (place t (suc h))) = elim stood.3 [ inl i ↦ i | inr y ↦ not_both n.merging here.is_open.not_merging (subst (λ (z : Node). z.merging ≡ true) same y) ] in (
      u.after,
      record {
        acts = acts;
        same = unseen_same m p (record { version = version; node = next }) u;
        knows = record {
          height = h;
          merging = merge_begins acts.is t number h a.child a.before (record { pid = p; version = version; node = taken }) k.above.es k.before.key k.before.low current.named chained live here.is_open.not_merging refl k.above.content b.0 b.1 b.2;
        };
      },
    )

-- the child was read, and is merging already: the page before it is looked for
pub child_seeks : ChildSeeks
child_seeks m w t number aim a version d named live capped k = record {
  height = k.height;
  merging = k.merging;
  frozen = record { page = k.merging.c_stood.page; capped = capped; now = inr live };
  lo = k.merging.low;
  stood = k.merging.left_stood;
  before = subst (λ l. Below k.merging.low l) (lo_now k.merging.c_stood named d (ap (option_map (λ (z : Page). z.node)) live)) k.merging.below;
}

-- the child was read, and is open: it is to be capped
pub child_caps : ChildCaps
child_caps m w t number aim a version d is named live calm k = record {
  height = k.height;
  merging = k.merging;
  view = view_here is a.child version d live;
  tree = k.merging.wanted.tree;
  is_open = calm;
  wanted = λ again f. elim k.merging.wanted.now [
    | inl e ↦ absurd (e named)
    | inr b ↦ elim b [
      | inl e ↦ none_some (sym e ∙ node)
      | inr b ↦ elim b [
        | inl x ↦ not_both d.merging calm.not_merging (subst (λ (z : Node). z.merging ≡ true) (some_is (sym x.1 ∙ node)) x.2)
        | inr x ↦ x
      ]
    ]
  ];
}
  where
    node : nodes_at m a.child ≡ Some d
    node = ap (option_map (λ (z : Page). z.node)) live

-- a page that stood on a level was read with a merging child of its own: that merge begins
pub stood_merges_law : StoodMergesLaw
stood_merges_law m w t number h look lo is named stood live not_merging c before child is_before =
    let node : nodes_at m look.pid ≡ Some look.node = ap (option_map (λ (z : Page). z.node)) live in
    let i = (now_law m w (place t h) number lo look.pid stood named look.node node not_merging).0 in
    let sound = sound_at is.formed (place t h) look.pid look.node i node in
    let b = before_law h look.node c before sound is_before in
    let up = high is_before.key h look.node.content refl sound.holds b.0 in
    record { height = up.0; merging = merge_begins is t number up.0 c before look up.2 is_before.key is_before.low named (subst (λ z. In look.pid (w.chain (place t z))) up.1 i) live not_merging child up.3 b.0 b.1 b.2 }
  where
    high : (k : Key) (h : ℕ) (d : Data) → look.node.content ≡ d → Holds h look.node.lo look.node.hi d → In (k, c) (pointers d) → (g : ℕ) × (h ≡ suc g) × (es : List (Key × ℕ)) × (look.node.content ≡ Index es)
    high k h (Leaf es) e s j = absurd j
    high k h (Index es) e s j = let up = index_high h look.node.lo look.node.hi es s in (up.0, up.1, es, e)

-- The cap: the child is merging from now on
pub cap_action : CapAction
cap_action m w t number aim a version node is current unused k =
    let h : ℕ = k.height in
    let c : ℕ = a.merge.child in
    let next : Node = after_link ChildMergeCap a.node in
    let new : Snapshot = after_replacement m c (record { version = version; node = next }) in
    let fresh : IsAtVersion m (child_of a) = record { page = record { version = a.version; node = node }; live = current.page; same = refl } in
    let node_is : node ≡ a.node = k.view.speaks (record { version = a.version; node = node }) current.page refl in
    let live : nodes_at m c ≡ Some a.node = ap (option_map (λ (z : Page). z.node)) current.page ∙ ap Some node_is in
    let up = k.wanted current.named fresh in
    -- the page stands in the chain: a chain page above has a pointer to it, and it is not merging
    let b = is.formed.child (place t (suc h)) up.parent up.node up.chained up.live c up.child in
    let g = is.formed.pointer t h up.parent up.node up.chained up.live b.0 c (later_in up.node.content b.0 c b.1) in
    let p = is.formed.page (place t h) c g.homed in
    let chained : In c (w.chain (place t h)) = elim p.1.stands [ inl i ↦ i | inr y ↦ not_both a.node.merging k.is_open.not_merging (subst (λ (z : Node). z.merging ≡ true) (some_is (sym p.1.live ∙ live)) y) ] in
    let u = cap_law (nodes_at m) m.state.roots w is.formed (place t h) c a.node (record { chained = chained; live = live; is_open = k.is_open }) up.parent up.node up.chained up.live up.child in
    let acts : KeepsForest [] [] m w new u.after = unseen_acts c _ (record { version = version; node = next }) is current.page (subst (λ (z : Node). z.merging ≡ false) (sym node_is) k.is_open.not_merging) unused (inl (place t h, g.homed)) u tt in
    let there : new.state.pages c ≡ Some (record { version = version; node = next }) = put_here m.state.pages c (Some (record { version = version; node = next })) in (
      u.after,
      record {
        acts = acts;
        same = unseen_same m c (record { version = version; node = next }) u;
        knows = child_seeks new u.after t number aim a.merge version next current.named there refl (record { height = h; merging = merging_kept is acts.goes t number h a.merge k.merging });
      },
    )

-- what the receiving page leads to is the capped page
pub receives_from : {m : Snapshot} {w : Forest} → HasForest m w → (x : Place) (c p : ℕ) (version : ℕ) (n d : Node) → In p (w.chain x) → nodes_at m p ≡ Some n → n.next ≡ Some c → IsFrozen m c version d → In c (w.chain x) × (nodes_at m c ≡ Some d)
receives_from {m} {w} is x c p version n d i live next k =
    let b = followed is.formed x p c n i live next in
    let c_in : In c (w.chain x) = subst (λ l. In c l) (sym b.2) (In-right b.0 _ c (inr (inl refl))) in
    let e = is.formed.page x c (is.formed.homed x c c_in) in
    (c_in, elim k.now [ inl none ↦ none_some (sym (ap (option_map (λ (z : Page). z.node)) none) ∙ e.1.live) | inr there ↦ ap (option_map (λ (z : Page). z.node)) there ])

-- what the page that is looked at gives the search
pub seek_law : SeekLaw
seek_law m w t number aim a left is named at read calm k = record {
  further = λ q more further next. record {
    height = k.height;
    merging = k.merging;
    frozen = k.frozen;
    lo = left.node.hi;
    stood = elim (behind is.formed (place t k.height) left.pid left.node left_in left_live) [
      | inl e ↦ absurd (more e)
      | inr b ↦ subst (λ p. StoodInChain m w (place t k.height) number left.node.hi p) (some_is (sym b.5 ∙ next)) (subst (λ l. StoodInChain m w (place t k.height) number l b.0) b.4 (stands_here is (place t k.height) number b.0 b.1 named b.2 b.3))
    ];
    before = further;
  };
  done = λ reaches other. record {
    height = k.height;
    node = a.node;
    merger = k.merging.merger;
    received = record {
      frozen = k.frozen;
      out = elim k.frozen.now [
        | inl none ↦ inl (ap (option_map (λ (z : Page). z.node)) none)
        | inr there ↦ inr (reached_law (nodes_at m) m.state.roots w is.formed (place t k.height) left.pid a.merge.child left.node a.node left_in left_live (ap (option_map (λ (z : Page). z.node)) there) left_before reaches other)
      ];
    };
  };
  receives = λ next fits. record { height = k.height; merging = k.merging; seen = left_seen; next = next; before = left_before; frozen = k.frozen; fits = fits };
  splits = record { height = k.height; seen = left_seen; posted = tt };
}
  where
    left_live : nodes_at m left.pid ≡ Some left.node
    left_live = ap (option_map (λ (z : Page). z.node)) read

    left_stood : StoodInChain m w (place t k.height) number k.lo left.pid
    left_stood = subst (λ p. StoodInChain m w (place t k.height) number k.lo p) (sym at) k.stood

    left_in : In left.pid (w.chain (place t k.height))
    left_in = (now_law m w (place t k.height) number k.lo left.pid left_stood named left.node left_live calm.not_merging).0

    left_before : Below left.node.lo a.node.lo
    left_before = subst (λ l. Below l a.node.lo) (lo_now left_stood named left.node left_live) k.before

    left_seen : SeenOpen m w (place t k.height) number left
    left_seen = seen_here is (place t k.height) number left named read left_in calm

-- the replacement was late: the search goes on at the same page
pub receive_late : ReceiveLate
receive_late m w t number aim a k = record { height = k.height; merging = k.merging; frozen = k.frozen; lo = a.left.node.lo; stood = k.seen.stood; before = k.before }

-- The page before receives the child. With at most 16 entries of its own it has at most 33 then
pub receive_action : ReceiveAction
receive_action m w t number aim a version node is current unused k =
    let h : ℕ = k.height in
    let x : Place = place t h in
    let c : ℕ = a.merge.child in
    let p : ℕ = a.left.pid in
    let n : Node = a.left.node in
    let d : Node = a.node in
    let both : Node = after_receiving n d in
    let new : Snapshot = after_replacement m p (record { version = version; node = both }) in
    let here = open_now k.seen current in
    let there = receives_from is x c p a.version n d here.chained here.live k.next k.frozen in
    let f = is.formed in
    let up : Below n.lo n.hi = rises_at f x p c n here.chained here.live k.next in
    let meets : n.hi ≡ d.lo = elim (behind f x p n here.chained here.live) [
      | inl none ↦ absurd (not_below_empty n.lo (subst (λ l. Below n.lo l) none up))
      | inr z ↦ sym z.4 ∙ ap (λ (y : Node). y.lo) (some_is (sym z.3 ∙ ap (nodes_at m) (some_is (sym z.5 ∙ k.next)) ∙ there.1))
    ] in
    let r = (joined_law n d).joined h (sound_at f x p n here.chained here.live) (sound_at f x c d there.0 there.1) meets k.before (covers_itself f x c d there.0 there.1).1 in
    let u = receive_law (nodes_at m) m.state.roots w f x p c n d both here k.next there.1 k.frozen.capped r in
    let acts : KeepsForest [] [] m w new u.0.after = unseen_acts p _ (record { version = version; node = both }) is current.page (awake_now k.seen current) unused (inl (x, f.homed x p here.chained)) u.0 k.fits.fits in
    let off : c ≢ p = λ e. not_both d.merging (subst (λ (z : Node). z.merging ≡ false) (some_is (sym here.live ∙ ap (nodes_at m) (sym e) ∙ there.1)) here.is_open.not_merging) k.frozen.capped in
    let frozen : IsFrozen new c a.version d = record {
      page = k.frozen.page;
      capped = k.frozen.capped;
      now = elim k.frozen.now [ inl e ↦ inl (put_elsewhere m.state.pages p c _ off ∙ e) | inr e ↦ inr (put_elsewhere m.state.pages p c _ off ∙ e) ];
    } in (
      u.0.after,
      record {
        acts = acts;
        same = unseen_same m p (record { version = version; node = both }) u.0;
        knows = record { height = h; node = d; merger = merger_kept is acts.goes t number h c a.merge.parent k.merging.merger; received = record { frozen = frozen; out = inr (u.1 x) } };
      },
    )

-- The confirmation: the pointer to the child goes, and the child is the call's own
pub confirm_action : ConfirmAction
confirm_action m w t number aim a version node is current unused k =
    let h : ℕ = k.height in
    let x : Place = place t (suc h) in
    let c : ℕ = a.child in
    let d : Node = k.node in
    let p : ℕ = a.parent.pid in
    let n : Node = a.parent.node in
    let next : Node = after_link ParentMergeConfirm n in
    let g = k.merger in
    let node_is : node ≡ n = g.view.speaks (record { version = a.parent.version; node = node }) current.page refl in
    let live : nodes_at m p ≡ Some n = ap (option_map (λ (z : Page). z.node)) current.page ∙ ap Some node_is in
    let i = (now_law m w x number n.lo p g.stood current.named n live g.not_merging).0 in
    let b = is.formed.child x p n i live c g.child in
    let e = is.formed.pointer t h p n i live b.0 c (later_in n.content b.0 c b.1) in
    let r = k.received in
    elim r.frozen.now [
      | inl none ↦ none_some (sym (ap (option_map (λ (z : Page). z.node)) none) ∙ e.live)
      | inr there ↦ elim r.out [
        | inl none ↦ none_some (sym none ∙ e.live)
        | inr out ↦
            let u = confirm_law (nodes_at m) m.state.roots w is.formed t h p c n i live g.not_merging g.child out in
            let not_merging : node.merging ≡ false = subst (λ (z : Node). z.merging ≡ false) (sym node_is) g.not_merging in
            let s = unseen_acts p _ (record { version = version; node = next }) is current.page not_merging unused (inl (x, is.formed.homed x p i)) u.0 tt in
            let off : c ≢ p = λ e. not_both n.merging g.not_merging (subst (λ (z : Node). z.merging ≡ true) (some_is (sym (ap (option_map (λ (z : Page). z.node)) there) ∙ ap (nodes_at m) e ∙ live)) r.frozen.capped) in (
              u.0.after,
              record {
                acts = record {
                  is = s.is;
                  goes = goes_more [] (c ∷ []) None (λ z j. absurd j) s.goes;
                  fresh = λ q j. inr (inr (place t h, elim j [ inl same ↦ ap w.home same ∙ e.homed | inr none ↦ absurd none ]));
                  sized = s.sized;
                  grows = s.grows;
                };
                same = unseen_same m p (record { version = version; node = next }) u.0;
                knows = record { node = d; own = record { live = put_elsewhere m.state.pages p c _ off ∙ there; stray = u.1 } };
              },
            )
      ]
    ]
