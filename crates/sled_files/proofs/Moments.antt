-- What a crash may leave of two files while a payload is added to them, against the store.
use Rattle.std.proofs.Common.{◌≡◌, inl, inr, ⊎_elim, ℕ, Bool, true, false, List, [], ◌∷◌, length, refl, sym, ◌∙◌, subst, arith, ◌⊎◌}
use Rattle.sled_store.specs.In.{In}
use Rattle.sled_store.specs.Store.{Store}
use Rattle.std.specs.List.{flat_map}
use Rattle.sled_bytes.specs.declared.change.Change.{Change}
use Rattle.sled_bytes.specs.declared.change.Change.TheVariants.{Given, Linked, Freed, Rooted, Begun, Sealed, Marked, Limited}
use Rattle.sled_bytes.specs.Spelling.{change_bytes}
use Rattle.sled_files.specs.Pending.{Spells}
use Rattle.sled_files.specs.Change.{Durable, changed_all}
use Rattle.sled_files.specs.Standing.{StandsAt, IsBlank, IsOlder, AreFor}
use Rattle.sled_files.specs.Files.{Files, picked, IsReady, KeepsTime, LeavesPairs, AreForEither}
use Rattle.sled_files.specs.Lasting.{Limits, IsRight, IsLasting, EachPair}
use Rattle.sled_files.specs.Stored.{Lasts}

lasting : {asked : List ℕ} {limits : Limits} {s : Store} {d : Durable} {a b : List ℕ} → IsRight asked limits s d → AreFor a b d → IsLasting asked limits s a b
lasting {d = d} right stands = record { durable = d; stands = stands; right = right }

-- a mark more may have been asked for
pub asks_more : {asked : List ℕ} {limits : Limits} {s : Store} {a b : List ℕ} (more : List ℕ) → ((x : ℕ) → In x asked → In x more) → IsLasting asked limits s a b → IsLasting more limits s a b
asks_more more on l = record {
  durable = l.durable;
  stands = l.stands;
  right = record { state = l.right.state; mark = ⊎_elim (λ is. inl is) (λ one. inr (on l.durable.mark one)) l.right.mark; no_lower = l.right.no_lower; limited = l.right.limited };
}

-- two files that are ready stand for this, whichever of them counts
counts : {D : Type 0} (seen : D → List ℕ) (second : Bool) (x y : D) (gate generation : ℕ) (d : Durable) → StandsAt (seen (picked second x y)) gate generation d
    → IsBlank (seen (picked second y x)) ⊎ IsOlder generation (seen (picked second y x)) → AreFor (seen x) (seen y) d
counts seen true x y gate generation d stands behind = record { generation = generation; which = inr (record { stands = stands.stands; behind = behind }) }
counts seen false x y gate generation d stands behind = record { generation = generation; which = inl (record { stands = stands.stands; behind = behind }) }

module _ {D : Type 0} {seen : D → List ℕ} {may_leave : D → List ℕ → Type 0} where
  -- what a crash may leave of files that are ready is right where what they stand for is
  pub lasts_ready : {files : Files D} {d : Durable} {asked : List ℕ} {limits : Limits} {s : Store} → IsReady seen may_leave files d → IsRight asked limits s d → Lasts may_leave asked limits s files
  lasts_ready {files} {d} {asked} {limits} {s} r right = record {
    each = λ a b x y. lasting right (subst (λ (l : List ℕ). AreFor l b d) (sym (r.first_only a x)) (subst (λ (l : List ℕ). AreFor (seen files.first) l d) (sym (r.second_only b y)) (counts seen files.is_second files.first files.second files.gate files.generation d r.stands r.behind)));
  }

module _ {D : Type 0} {moment : D → ℕ} {left_since : D → ℕ → List ℕ → Type 0} {may_leave : D → List ℕ → Type 0} where
  -- of what is before or after, both of which are right, at each moment one is left
  pub moments_either : {old new : Files D} {d later : Durable} {asked : List ℕ} {limits : Limits} {s : Store} → IsRight asked limits s d → IsRight asked limits s later
      → LeavesPairs moment left_since may_leave old new (AreForEither d later) → LeavesPairs moment left_since may_leave old new (IsLasting asked limits s)
  moments_either right also l = record {
    first_later = l.first_later;
    second_later = l.second_later;
    each = record { each = λ a b x y. ⊎_elim (λ is. lasting right is) (λ is. lasting also is) (l.each.each a b x y) };
    now = record { each = λ a b x y. ⊎_elim (λ is. lasting right is) (λ is. lasting also is) (l.now.each a b x y) };
  }

  -- files that stay as they are leave at each moment what they may leave now
  pub moments_none : {files new : Files D} {P : List ℕ → List ℕ → Type 0} → KeepsTime moment left_since may_leave files.first → KeepsTime moment left_since may_leave files.second → new ≡ files → EachPair (may_leave files.first) (may_leave files.second) P
      → LeavesPairs moment left_since may_leave files new P
  moments_none {files} {new} {P} first second same lasts = subst (λ (f : Files D). LeavesPairs moment left_since may_leave files f P) (sym same) (record {
    first_later = omega arith;
    second_later = omega arith;
    each = record { each = λ a b x y. lasts.each a b (first.only a x) (second.only b y) };
    now = lasts;
  })

-- no bytes are those of no change
none_spelled : (changes : List Change) → flat_map change_bytes changes ≡ [] → changes ≡ []
none_spelled [] is = refl
none_spelled (Given pid version node ∷ changes) is = absurd (cc)
none_spelled (Linked pid version link ∷ changes) is = absurd (cc)
none_spelled (Freed pid ∷ changes) is = absurd (cc)
none_spelled (Rooted name root ∷ changes) is = absurd (cc)
none_spelled (Begun ∷ changes) is = absurd (cc)
none_spelled (Sealed ∷ changes) is = absurd (cc)
none_spelled (Marked upto ∷ changes) is = absurd (cc)
none_spelled (Limited pids versions ∷ changes) is = absurd (cc)

pub none_long : (bytes : List ℕ) → length bytes ≡ 0 → bytes ≡ []
none_long [] is = refl
none_long (b ∷ bytes) is = absurd (omega (arith, is))

pub empty_spells : {bytes : List ℕ} {changes : List Change} → bytes ≡ [] → Spells bytes changes → changes ≡ []
empty_spells {bytes} {changes} empty s = none_spelled changes (sym s.spelled ∙ empty)

module _ {D : Type 0} {seen : D → List ℕ} {moment : D → ℕ} {left_since : D → ℕ → List ℕ → Type 0} {may_leave : D → List ℕ → Type 0} where
  -- while nothing is added
  pub moments_ready : {files : Files D} {d : Durable} {changes : List Change} → KeepsTime moment left_since may_leave files.first → KeepsTime moment left_since may_leave files.second → changes ≡ [] → IsReady seen may_leave files d
      → LeavesPairs moment left_since may_leave files files (AreForEither d (changed_all changes d))
  moments_ready {files} {d} {changes} first second none r = moments_none first second refl (record {
    each = λ a b x y. inl (subst (λ (l : List ℕ). AreFor l b d) (sym (r.first_only a x)) (subst (λ (l : List ℕ). AreFor (seen files.first) l d) (sym (r.second_only b y)) (counts seen files.is_second files.first files.second files.gate files.generation d r.stands r.behind)));
  })
