-- The steps of a walk.
use native.Mathlib.Omega.{arith}
use Rattle.std.proofs.Common.{◌≡◌, ℕ, ◌+◌, ◌<◌, ◌≤◌, true, false, Bool, is_none, Option, Some, None, Result, Ok, Err, IfOk, IfErr, OnOk, MatchOption, refl, sym, ap, ◌∙◌, subst, inl, inr}
use Rattle.sled_nodes.proofs.Basics.{true_false}
use Rattle.sled_nodes.specs.Order.{Key}
use Rattle.sled_nodes.specs.Among.{IsPointer, IsPointerFor}
use Rattle.sled_nodes.specs.Node.{count, pointers}
use Rattle.sled_store.specs.Store.{Store, now, view_of, IsReadRefused}
use Rattle.sled_nodes.specs.declared.error.Error.{Error}
use Rattle.sled_nodes.specs.declared.error.Error.TheVariants.{NoMemory}
use Rattle.sled_nodes.specs.declared.node.Data.{Data}
use Rattle.sled_nodes.specs.declared.node.Data.TheVariants.{Leaf, Index}
use Rattle.sled_store.specs.declared.page.View.{View}
use Rattle.sled_nodes.specs.Node.{value_at}
use Rattle.sled_nodes.specs.Ranges.{Range}
use Rattle.sled_model.specs.Answer.{key_of}
use Rattle.sled_model.specs.State.{range_of, IsOnKey}
use Rattle.sled_model.specs.declared.call.Call.{Call}
use Rattle.sled_model.specs.declared.reply.Reply.{Reply}
use Rattle.sled_tree.specs.Change.{reply_at}
use Rattle.sled_tree.specs.theory.Change.{IsLeaf, IsIndex}
use Rattle.sled_tree.specs.theory.Descent.{way_of, met_as, RepairsParent, IsClean, Meets, Leads, Descends, Settles}
use Rattle.sled_tree.specs.Follows.{follows_here, Follows, FollowsPage, OrNoMemory, done_at, kept_at, follows_read, follows_root, follows_leaf, follows_leaf_as, follows_content}
use Rattle.sled_tree.specs.declared.walk.Descent.TheVariants as descent
use Rattle.sled_tree.specs.declared.flight.InFlight.{InFlight}
use Rattle.sled_tree.specs.Course.{Course, course_of}
use Rattle.sled_tree.specs.declared.flight.Sequel.{Sequel}
use Rattle.sled_tree.specs.declared.flight.Sequel.TheVariants.{Go, Decided, Refused}
use Rattle.tree_laws.specs.declared.flight.Stage.{Stage}
use Rattle.tree_laws.specs.declared.flight.Stage.TheVariants as stage
use Rattle.tree_laws.specs.declared.flight.Walk.{Walk}
use Rattle.sled_tree.specs.declared.flight.Went.TheVariants as went
use Rattle.tree_laws.specs.Stages.{by_pointer}
use Rattle.tree_laws.specs.declared.flight.Reached.{Reached}
use Rattle.tree_laws.specs.declared.flight.Reached.TheVariants as reached
use Rattle.sled_tree.proofs.Facts.{unable, unread, restarts}
use Rattle.sled_tree.proofs.Arriving.{goes, root_read, cursor_read, descends, acts, keeps, answers}
use Rattle.sled_tree.proofs.Replying.{links_on_key}
use Rattle.sled_tree.proofs.Following.{opened}
use Rattle.sled_tree.proofs.Passing.{not_behind, no_root, shut_pointless, root_gone, cursor_gone, root_passes, cursor_passes, down_passes, leaf_passes, kept_passes}

-- a page that was read says what comes
page_follows : (s : Store) (pid : ℕ) (found : View → Sequel → Type 0) (view : View) (next : Sequel) → s.is_readable pid ≡ true → Some view ≡ view_of pid ((now s).pages pid) → found view next → FollowsPage s pid found next
page_follows s pid found view next readable read f = record { is = inl (readable, subst (λ o. MatchOption o (next ≡ Go stage.Root) (λ v. found v next)) read f) }

-- and so does that there is none
gone_follows : (s : Store) (pid : ℕ) (found : View → Sequel → Type 0) → s.is_readable pid ≡ true → None ≡ view_of pid ((now s).pages pid) → FollowsPage s pid found (Go stage.Root)
gone_follows s pid found readable read = record { is = inl (readable, subst (λ o. MatchOption o (Go stage.Root ≡ Go stage.Root) (λ v. found v (Go stage.Root))) read refl) }

-- what comes of a page where nothing is to be repaired is what comes of its content
settled_follows : (j : Course) (view : View) (by : Reached) (next : Sequel) → (RepairsParent by (count view.node.content) → ⊥) → follows_content view.node.content j view next → follows_here j view by next
settled_follows j view reached.Root next settled f = f
settled_follows j view (reached.FirstPointer parent) next settled f = f
settled_follows j view (reached.LaterPointer parent) next settled f = inr (settled, f)
settled_follows j view (reached.Next parent) next settled f = absurd (settled tt)

clean_follows : (j : Course) (view : View) (by : Reached) (next : Sequel) → IsClean j by view → follows_content view.node.content j view next → follows_read j view by next
clean_follows j view by next clean f = opened j view by next clean.not_merging clean.free (inr (
  (λ long. absurd (not_long clean.fits long)),
  inr (not_behind view.node j.aim clean.under, inl (clean.under, settled_follows j view by next clean.settled f)),
))
  where
    not_long : count view.node.content ≤ 16 → 16 < count view.node.content → ⊥
    not_long fits long = omega (arith, fits, long)

-- at a leaf
leaf_follows : (j : Course) (view : View) (next : Sequel) (d : Data) → IsLeaf d → follows_leaf j view next → follows_content d j view next
leaf_follows j view next (Leaf es) is f = f
leaf_follows j view next (Index es) is f = absurd is

index_follows : (j : Course) (view : View) (c : ℕ) (first : Bool) (d : Data) → IsIndex d → IsPointer j.aim (pointers view.node.content) c first → follows_content d j view (Go (stage.Walk (record { cursor = c; reached = by_pointer view first })))
index_follows j view c first (Leaf es) is k = absurd is
index_follows j view c first (Index es) is k = record { found = Some (c, first); is_last = k; is = refl }

pointless_follows : (j : Course) (view : View) (d : Data) → IsIndex d → IsPointerFor j.aim (pointers view.node.content) None → follows_content d j view (Go stage.Root)
pointless_follows j view (Leaf es) is k = absurd is
pointless_follows j view (Index es) is k = record { found = None; is_last = k; is = refl }

-- what a store answers to a read
record IsAnswer (s : Store) (pid : ℕ) (found : Result (Option View) Error) : Type 0 where
  ok : IfOk found (λ view. view ≡ view_of pid ((now s).pages pid))
  readable : OnOk found (s.is_readable pid ≡ true)
  err : IfErr found (λ e. IsReadRefused pid s e)

module _ (j : Course) (s : Store) where
  -- the tree has no root,
  pub rootless : (name : Key) (root : Option ℕ) → name ≡ j.tree.name → root ≡ (now s).roots name → root ≡ None → met_as s j stage.Root (Ok None)
  rootless name root called is_root none = record {
    moves = restarts j s stage.Root (λ q i. i);
    passes = no_root j (now s) name root (Go stage.Root) called is_root none;
    follows = record { is = (refl, subst (λ o. follows_root j s o (Go stage.Root)) (sym none ∙ (is_root ∙ ap (now s).roots called)) refl) };
  }

  -- the root of a tree is read,
  module _ (name : Key) (root : Option ℕ) (pid : ℕ) (called : name ≡ j.tree.name) (is_root : root ≡ (now s).roots name) (is_some : root ≡ Some pid) where
    at_root : (next : Sequel) → FollowsPage s pid (λ v. follows_read j v reached.Root) next → Follows j s stage.Root next s
    at_root next f = record { is = (refl, subst (λ o. follows_root j s o next) (sym is_some ∙ (is_root ∙ ap (now s).roots called)) f) }

    root_met_as : (found : Result (Option View) Error) → IsAnswer s pid found → met_as s j stage.Root found
    root_met_as (Ok None) k = record {
      moves = restarts j s stage.Root (λ q i. i);
      passes = root_gone j (now s) name root pid _ called is_root is_some k.ok;
      follows = at_root _ (gone_follows s pid _ k.readable k.ok);
    }
    root_met_as (Ok (Some view)) k = record {
      moves = λ next t. root_read j s name root pid view next called is_root is_some k.ok t;
      passes = λ next t. root_passes j (now s) name root pid view next called is_root is_some k.ok t;
      follows = λ next t. at_root next (page_follows s pid _ view next k.readable k.ok t);
    }
    root_met_as (Err e) k = record {
      moves = unread j s stage.Root pid e k.err;
      passes = record { is = λ path p. tt };
      follows = at_root _ (record { is = inr (e, refl, k.err) });
    }

    pub root_met : (found : Result (Option View) Error) → IfOk found (λ view. view ≡ view_of pid ((now s).pages pid)) → OnOk found (s.is_readable pid ≡ true) → IfErr found (λ e. IsReadRefused pid s e) → met_as s j stage.Root found
    root_met found ok readable err = root_met_as found (record { ok = ok; readable = readable; err = err })

  -- or the cursor of a walk
  module _ (a : Walk) where
    cursor_met_as : (found : Result (Option View) Error) → IsAnswer s a.cursor found → met_as s j (stage.Walk a) found
    cursor_met_as (Ok None) k = record {
      moves = restarts j s (stage.Walk a) (λ q i. i);
      passes = cursor_gone j (now s) a _ k.ok;
      follows = record { is = (refl, gone_follows s a.cursor _ k.readable k.ok) };
    }
    cursor_met_as (Ok (Some view)) k = record {
      moves = λ next t. cursor_read j s a view next k.ok t;
      passes = λ next t. cursor_passes j (now s) a view next k.ok t;
      follows = λ next t. record { is = (refl, page_follows s a.cursor _ view next k.readable k.ok t) };
    }
    cursor_met_as (Err e) k = record {
      moves = unread j s (stage.Walk a) a.cursor e k.err;
      passes = record { is = λ path p. tt };
      follows = record { is = (refl, record { is = inr (e, refl, k.err) }) };
    }

    pub cursor_met : (found : Result (Option View) Error) → IfOk found (λ view. view ≡ view_of a.cursor ((now s).pages a.cursor)) → OnOk found (s.is_readable a.cursor ≡ true) → IfErr found (λ e. IsReadRefused a.cursor s e) → met_as s j (stage.Walk a) found
    cursor_met found ok readable err = cursor_met_as found (record { ok = ok; readable = readable; err = err })

  module _ (a : Stage) (view : View) (m : Meets s j a view) where
    -- an index leads down,
    pub leads : (c : ℕ) (first : Bool) → IsClean j (way_of a) view → IsIndex view.node.content → IsPointer j.aim (pointers view.node.content) c first
        → Descends s j a descent.Further (stage.Walk (record { cursor = c; reached = by_pointer view first }))
    leads c first clean index k = record {
      is = record {
        moves = m.moves _ (descends j view (way_of a) clean.not_merging clean.free clean.under clean.fits c first index k);
        passes = m.passes _ (down_passes j view (way_of a) c first index k);
        follows = m.follows _ (clean_follows j view (way_of a) _ clean (index_follows j view c first _ index k));
      };
    }

    -- and one without a pointer sends the call back to the root
    pub leads_back : (b : Stage) → IsClean j (way_of a) view → IsIndex view.node.content → IsPointerFor j.aim (pointers view.node.content) None → Descends s j a descent.Lost b
    leads_back b clean index k = record {
      is = record {
        moves = m.moves _ (goes j view (way_of a) stage.Root refl tt (λ w v is named r. tt));
        passes = m.passes _ (shut_pointless j view (way_of a) j.aim refl index k _);
        follows = m.follows _ (clean_follows j view (way_of a) _ clean (pointless_follows j view _ index k));
      };
    }

-- a call that has no range is on a key
pub on_key : (call : Call) (b : Bool) → b ≡ is_none (range_of call) → b ≡ true → IsOnKey call
on_key call b is e = go (range_of call) (sym is ∙ e)
  where
    go : (range : Option Range) → is_none range ≡ true → range ≡ None
    go None e = refl
    go (Some range) e = true_false (sym e)

-- a step that was made is one of the call
module _ (s : Store) (f : InFlight) where
  pub settles_go : (b : Stage) → Leads s (course_of f) f.stage (Go b) → Settles s f went.Moved (record { job = f.job; aim = f.aim; stage = b; turns = f.turns + 1 })
  settles_go b l = record { advances = record { is = (refl, refl, refl, l.moves) }; passes = record { is = λ path k. l.passes.is path k }; follows = record { is = l.follows } }

  pub settles_decided : (b : Stage) (reply : Reply) → Leads s (course_of f) f.stage (Decided reply) → Settles s f (went.Decided reply) (record { job = f.job; aim = f.aim; stage = b; turns = f.turns })
  settles_decided b reply l = record { advances = record { is = l.moves }; passes = record { is = tt }; follows = record { is = l.follows } }

  pub settles_refused : (b : Stage) (e : Error) → Leads s (course_of f) f.stage (Refused e) → Settles s f (went.Refused e) (record { job = f.job; aim = f.aim; stage = b; turns = f.turns })
  settles_refused b e l = record { advances = record { is = l.moves }; passes = record { is = tt }; follows = record { is = l.follows } }

  -- at the leaf a scan keeps it,
  module _ (view : View) (leaf : IsLeaf view.node.content) (clean : IsClean (course_of f) (way_of f.stage) view) (m : Meets s (course_of f) f.stage view) where
    at_leaf_follows : (next : Sequel) → follows_leaf (course_of f) view next → Follows (course_of f) s f.stage next s
    at_leaf_follows next t = m.follows next (clean_follows (course_of f) view (way_of f.stage) next clean (leaf_follows (course_of f) view next _ leaf t))

    pub comes_to_give : is_none (range_of f.job.call) ≡ false → Settles s f went.Moved (record { job = f.job; aim = f.aim; stage = stage.Give (record { leaf = view; given = 0 }); turns = f.turns + 1 })
    comes_to_give scan = settles_go (stage.Give (record { leaf = view; given = 0 })) (record {
      moves = m.moves _ (keeps (course_of f) view (way_of f.stage) clean.not_merging clean.free clean.under clean.fits leaf (λ on_key. true_false (sym (ap is_none on_key) ∙ scan)));
      passes = m.passes _ (kept_passes (course_of f) view (way_of f.stage) leaf);
      follows = at_leaf_follows _ (go (range_of f.job.call) scan);
    })
      where
        go : (range : Option Range) → is_none range ≡ false → follows_leaf_as range (course_of f) view (kept_at view)
        go None none = true_false none
        go (Some range) some = refl

    on_key_follows : IsOnKey f.job.call → (next : Sequel) → OrNoMemory next (done_at view (reply_at f.job.call view.node.content)) → Follows (course_of f) s f.stage next s
    on_key_follows on_key next t = at_leaf_follows next (subst (λ r. follows_leaf_as r (course_of f) view next) (sym on_key) t)

    -- and a call on a key goes on to its change,
    pub comes_to_act : reply_at f.job.call view.node.content ≡ None → Settles s f went.Moved (record { job = f.job; aim = f.aim; stage = stage.Act view; turns = f.turns + 1 })
    comes_to_act changes = settles_go (stage.Act view) (record {
      moves = m.moves _ (acts (course_of f) view (way_of f.stage) clean.not_merging clean.free clean.under clean.fits leaf changes);
      passes = m.passes _ (leaf_passes (course_of f) view (way_of f.stage) leaf changes);
      follows = on_key_follows (links_on_key f.job.call (value_at view.node.content (key_of f.job.call)) changes) _ (inl (sym (ap (done_at view) changes)));
    })

    -- or is decided,
    pub comes_to_reply : (reply : Reply) → IsOnKey f.job.call → reply_at f.job.call view.node.content ≡ Some reply → Settles s f (went.Decided reply) f
    comes_to_reply reply on_key e = record {
      advances = record { is = m.moves _ (answers (course_of f) view (way_of f.stage) clean.not_merging clean.free clean.under clean.fits leaf reply on_key e) };
      passes = record { is = tt };
      follows = record { is = on_key_follows on_key _ (inl (sym (ap (done_at view) e))) };
    }

    -- or there is no memory
    pub comes_to_nothing : (e : Error) → IsOnKey f.job.call → e ≡ NoMemory → Settles s f (went.Refused e) f
    comes_to_nothing e on_key none = record {
      advances = record { is = unable (course_of f) s f.stage e none };
      passes = record { is = tt };
      follows = record { is = on_key_follows on_key _ (inr (ap Refused none)) };
    }
