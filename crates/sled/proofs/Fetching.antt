-- Calls that make the new value at a key of the one that stands there.
use Rattle.std.proofs.Common.{◌≡◌, ℕ, Bool, true, false, cond, [], ◌∷◌, Option, Some, None, option_map, Result, Ok, Err, sym, refl, ap, ◌∙◌, subst, inl, inr}
use Rattle.std.specs.FinMap.Entries.{find}
use Rattle.std.specs.declared.vec.Vec.{Vec}
use Rattle.std.specs.declared.alloc.Global.{Global}
use Rattle.std.specs.declared.alloc.AllocError.{AllocError}
use Rattle.sled_nodes.proofs.Basics.{some_is}
use Rattle.sled_nodes.specs.Order.{Key, key_cmp}
use Rattle.sled_store.specs.theory.Facts.{name_itself}
use Rattle.sled_store.specs.Store.{Store}
use Rattle.sled_nodes.specs.declared.error.Error.{Error}
use Rattle.sled_nodes.specs.declared.error.Error.TheVariants as error
use Rattle.sled_model.specs.Maps.{Merge}
use Rattle.sled_model.specs.Answer.{effect_of_write, decision_of_swap}
use Rattle.sled_model.specs.State.{NamedTree}
use Rattle.sled_model.specs.declared.call.Call.{Call}
use Rattle.sled_model.specs.Refusal.{MustRefuse, first_of, must_refuse_of, may_refuse_as, ToPoint, cause_of, cause_of_walk}
use Rattle.sled_model.specs.Whole.{RefusesPoint}
use Rattle.sled_model.specs.declared.call.Call.TheVariants.{Get, CompareAndSwap}
use Rattle.sled_model.specs.declared.decision.Decision.{Decision}
use Rattle.sled_model.specs.declared.decision.Effect.TheVariants as effect
use Rattle.sled_model.specs.declared.reply.Reply.{Reply}
use Rattle.sled_model.specs.declared.reply.Reply.TheVariants.{Swapped}
use Rattle.sled_model.specs.declared.tree.Tree.{Tree}
use Rattle.sled_model.proofs.Shapes.{same_value}
use Rattle.tree_reads.specs.Walk.{once}
use Rattle.sled.specs.Values.{DbValue, db_state}
use Rattle.sled.specs.Reads.{stops_reading, refuses_reading_as, RefusesReading, GivesUpGet}
use Rattle.sled.specs.Direct.{PointDecided, PointRefused}
use Rattle.sled.specs.theory.Direct.{IsSwap}
use Rattle.sled.specs.Fetch.{Closure, Answers, Stands, FetchRefused}
use Rattle.sled.specs.Promises.{ChangesMap, with_value}
use Rattle.sled.specs.Written.{Updates}
use Rattle.sled.proofs.Conducting.{conducts_none, conducts_refused, plain_short}
use Rattle.sled.proofs.Mapping.{claims_less}
use Rattle.sled.proofs.Popping.{min_is, pop_unread}
use Rattle.sled.proofs.Promising.{sets}

same_itself : (value : Option Key) → same_value value value ≡ true
same_itself None = refl
same_itself (Some v) = name_itself v

-- a swap replies with how it came out, whatever stands
swap_as : (b : Bool) (value made : Option Key)
    → IsSwap (cond {A = Decision} b (record { effect = effect_of_write made; reply = Swapped (Ok tt) }) (record { effect = effect.Nothing; reply = Swapped (Err (record { current = value; proposed = made })) })).reply
swap_as true value made = record { swap = Ok tt; is = refl }
swap_as false value made = record { swap = Err (record { current = value; proposed = made }); is = refl }

pub swap_replies : {P M : Type 0} (store : P → Store) (meant : M → Merge) (old : DbValue P M) (tree : Tree) (key : Key) (stood made : Option Key) (call : Call) (reply : Reply) (new : DbValue P M)
    → call ≡ CompareAndSwap key stood made → PointDecided store meant old tree call reply new → IsSwap reply
swap_replies store meant old tree key stood made call reply new is p =
    let q : PointDecided store meant old tree (CompareAndSwap key stood made) reply new = subst (λ c. PointDecided store meant old tree c reply new) is p in
    let value = find key_cmp key q.decides.named.map in
    subst IsSwap (sym q.decides.replies) (swap_as (same_value value stood) value made)

module _ {P M : Type 0} (store : P → Store) (meant : M → Merge) (old : DbValue P M) (tree : Tree) (key : Key) (stood made : Option Key) (s : Stands store meant old tree key stood) where
  -- a swap of the value that stands finds it
  pub swap_found : (call : Call) → call ≡ CompareAndSwap key stood made → (reply : Reply) (new : DbValue P M) → PointDecided store meant old tree call reply new → PointDecided store meant old tree (CompareAndSwap key stood made) (Swapped (Ok tt)) new
  swap_found call is reply new p = subst (λ r. PointDecided store meant old tree (CompareAndSwap key stood made) r new) (told swapped) swapped
    where
      swapped : PointDecided store meant old tree (CompareAndSwap key stood made) reply new
      swapped = subst (λ c. PointDecided store meant old tree c reply new) is p

      told : PointDecided store meant old tree (CompareAndSwap key stood made) reply new → reply ≡ Swapped (Ok tt)
      told q =
          q.decides.replies
          ∙ ap (λ value. (decision_of_swap value stood made).reply) (sym (subst (λ (n : NamedTree). stood ≡ find key_cmp key n.map) (some_is (sym s.there ∙ q.decides.there)) s.is))
          ∙ ap (λ b. (cond {A = Decision} b (record { effect = effect_of_write made; reply = Swapped (Ok tt) }) (record { effect = effect.Nothing; reply = Swapped (Err (record { current = stood; proposed = made })) })).reply) (same_itself stood)

  pub swap_short : (e : Error) → e ≡ error.NoMemory → PointRefused store meant old tree (CompareAndSwap key stood made) e old
  swap_short e short = plain_short store meant old tree (CompareAndSwap key stood made) e refl s.tested short

module _ {P M F : Type 0} (store : P → Store) (meant : M → Merge) (closure : Closure F) (f : F) (old : DbValue P M) (tree : Tree) (key : Key) where
  -- the read was refused; it does to the store what the read of a pop does
  pub unread : (e : Error) → RefusesReading store meant old tree once e → GivesUpGet store meant old tree key e → FetchRefused store meant closure f old tree key e old
  unread e refuses gives_up = record {
    why = inl (record { refuses = refuses; gives_up = gives_up; is = refl });
    same = refl;
    conducts = let none = conducts_none store meant old in record { acts = (pop_unread store meant old tree (min_is tree) once e refuses).acts; leaves = none.leaves; same = none.same };
  }

  module _ (stood : Option Key) (stands : Stands store meant old tree key stood) where
    -- the closure answered that there was no memory
    pub unmade : (answer : Result (Option (Vec ℕ Global)) AllocError) (short : AllocError) → answer ≡ Err short → Answers closure f stood answer → FetchRefused store meant closure f old tree key error.NoMemory old
    unmade answer short is answers = record {
      why = inr (inl (record { stood = stood; stands = stands; error = short; answers = subst (Answers closure f stood) is answers; told = refl; is = refl }));
      same = refl;
      conducts = conducts_refused store meant old error.NoMemory refl;
    }

    -- there was no memory for what it made
    pub unowned : (answer : Result (Option (Vec ℕ Global)) AllocError) (bytes : Option (Vec ℕ Global)) → answer ≡ Ok bytes → Answers closure f stood answer → (e : Error) → e ≡ error.NoMemory → FetchRefused store meant closure f old tree key e old
    unowned answer bytes is answers e short =
        let made = option_map (λ (v : Vec ℕ Global). v.items) bytes in
        let refused = swap_short store meant old tree key stood made stands e short in record {
          why = inr (inr (record { stood = stood; made = made; makes = record { stands = stands; answer = bytes; answers = subst (Answers closure f stood) is answers; is = refl }; refused = refused }));
          same = refl;
          conducts = refused.conducts;
        }

    -- the closure answered these bytes, and there was memory for them
    module _ (answer : Result (Option (Vec ℕ Global)) AllocError) (bytes : Option (Vec ℕ Global)) (is : answer ≡ Ok bytes) (answers : Answers closure f stood answer) (made : Option Key) (made_is : made ≡ option_map (λ (v : Vec ℕ Global). v.items) bytes) (new : DbValue P M) where
      -- the swap was made
      pub updates : PointDecided store meant old tree (CompareAndSwap key stood made) (Swapped (Ok tt)) new → ChangesMap store meant old tree (Updates closure f key stood made) new
      updates p =
          claims_less store meant old new tree (λ before after. (stood ≡ find key_cmp key before) × (after ≡ with_value key made before)) (Updates closure f key stood made)
          (λ before after claim. record { shown = claim.0; answer = bytes; answers = subst (Answers closure f stood) is answers; makes = made_is; writes = claim.1 })
          (sets store meant old tree key stood made new p)

      -- .. or was refused
      pub unswapped : (e : Error) → PointRefused store meant old tree (CompareAndSwap key stood made) e new → FetchRefused store meant closure f old tree key e new
      unswapped e p = record {
        why = inr (inr (record { stood = stood; made = made; makes = record { stands = stands; answer = bytes; answers = subst (Answers closure f stood) is answers; is = made_is }; refused = p }));
        same = p.refuses.is;
        conducts = p.conducts;
      }

  -- why it is refused, as any call on the key may be
  pub fetch_refuses : (e : Error) (new : DbValue P M) → FetchRefused store meant closure f old tree key e new → RefusesPoint (db_state store meant old) (store old.pages) (store new.pages) tree (Get key) e (db_state store meant new)
  fetch_refuses e new r = record {
    may = record {
      is = elim r.why [
        | inl u ↦ unread_may (must_refuse_of (db_state store meant old) (tree ∷ [])) u.refuses.is
        | inr t ↦ elim t [
          | inl u ↦ subst (λ o. may_refuse_as (first_of o None) (cause_of (db_state store meant old) (store old.pages) (store new.pages) (ToPoint tree (Get key))) e) (sym u.stands.tested) (subst (cause_of_walk (store old.pages) (store new.pages)) (sym u.told) tt)
          | inr u ↦ swap_may u.stood u.made (first_of (must_refuse_of (db_state store meant old) (tree ∷ [])) None) u.refused.refuses.may.is
        ]
      ];
    };
    is = r.same;
  }
    where
      read_cause : (e : Error) → stops_reading store meant old tree once e → cause_of_walk (store old.pages) (store new.pages) e
      read_cause error.NoMemory k = tt
      read_cause (error.Io fault) k = inr (k.0, k.1)
      read_cause (error.ReportableBug text) k = k.0
      read_cause other k = k

      unread_may : (o : Option MustRefuse) → refuses_reading_as store meant old tree once o e → may_refuse_as (first_of o None) (cause_of (db_state store meant old) (store old.pages) (store new.pages) (ToPoint tree (Get key))) e
      unread_may None k = read_cause e k
      unread_may (Some must) k = k

      same_cause : (call : Call) (e : Error) → cause_of_walk (store old.pages) (store new.pages) e → cause_of_walk (store old.pages) (store new.pages) e
      same_cause call error.NoMemory k = tt
      same_cause call (error.Io fault) k = k
      same_cause call (error.ReportableBug text) k = k
      same_cause call other k = k

      swap_may : (stood made : Option Key) (o : Option MustRefuse) → may_refuse_as o (cause_of (db_state store meant old) (store old.pages) (store new.pages) (ToPoint tree (CompareAndSwap key stood made))) e
          → may_refuse_as o (cause_of (db_state store meant old) (store old.pages) (store new.pages) (ToPoint tree (Get key))) e
      swap_may stood made None k = same_cause (CompareAndSwap key stood made) e k
      swap_may stood made (Some must) k = k
