-- A pair put in its place, one pair at a time from the front.
use Rattle.std.proofs.Common.{◌≡◌, ◌≢◌, ℕ, suc, ◌<◌, ◌+◌, cond, List, [], ◌∷◌, ◌++◌, length, get_or, take, drop, set, Some, is_eq, refl, sym, ap, ◌∙◌, arith, drop-cons, append_assoc, add-one}
use Rattle.std.proofs.lemmas.Cmp.{tied_itself}
use Rattle.std.proofs.lemmas.List.{set_split, get_or_default}
use Rattle.std.proofs.Math.Seq.{take-suc, drop-length}
use Rattle.std.specs.FinMap.{put}
use Rattle.std.specs.FinMap.Entries.{by_order, find, find-put}
use Rattle.std.specs.declared.cmp.Ordering.{Ordering}
use Rattle.std.specs.declared.cmp.Ordering.TheVariants.{Less, Equal, Greater}
use Rattle.sled_nodes.proofs.Basics.{key_total, key_same}
use Rattle.sled_nodes.specs.Order.{Key, key_cmp}
use Rattle.sled_nodes.specs.theory.Pairs.{Stands, Goes}

module _ {K X : Type 0} (R : K → K → Ordering) where
  -- the keys before place i are below k
  pub record IsPast (k : K) (ps : List (K × X)) (i : ℕ) : Type 0 where
    pub kept : (v : X) → take i ps ++ put R k v (drop i ps) ≡ put R k v ps

  -- what the rest becomes, by the order of its first key
  step : (ps : List (K × X)) (i : ℕ) (d : K × X) (k : K) (v : X) (o : Ordering) → i < length ps → R k (get_or ps i d).0 ≡ o → put R k v (drop i ps) ≡ by_order o ((k, v) ∷ drop i ps) (((get_or ps i d).0, v) ∷ drop (suc i) ps) (get_or ps i d ∷ put R k v (drop (suc i) ps))
  step ps i d k v o h e =
      ap (put R k v) (drop-cons ps i d h)
      ∙ ap (λ o. by_order o ((k, v) ∷ get_or ps i d ∷ drop (suc i) ps) (((get_or ps i d).0, v) ∷ drop (suc i) ps) (get_or ps i d ∷ put R k v (drop (suc i) ps))) e
      ∙ ap (λ r. by_order o ((k, v) ∷ r) (((get_or ps i d).0, v) ∷ drop (suc i) ps) (get_or ps i d ∷ put R k v (drop (suc i) ps))) (sym (drop-cons ps i d h))

  pub goes_before : (ps : List (K × X)) (i : ℕ) (d : K × X) (k : K) → i < length ps → IsPast k ps i → R k (get_or ps i d).0 ≡ Less → Goes R k ps i
  goes_before ps i d k h past e = record {
    in_range = omega arith;
    put_is = λ v. sym (ap (λ r. take i ps ++ r) (step ps i d k v Less h e)) ∙ past.kept v;
  }

  pub stands_at : (ps : List (K × X)) (i : ℕ) (d : K × X) (k : K) → i < length ps → IsPast k ps i → R k (get_or ps i d).0 ≡ Equal → Stands R k ps i
  stands_at ps i d k h past e = record {
    in_range = h;
    put_is = λ v f. ap (λ p. set ps i (p.0, v)) (get_or_default ps i f d h) ∙ (set_split ps i ((get_or ps i d).0, v) h ∙ (sym (ap (λ r. take i ps ++ r) (step ps i d k v Equal h e)) ∙ past.kept v));
  }

  pub past_more : (ps : List (K × X)) (i : ℕ) (d : K × X) (k : K) → i < length ps → IsPast k ps i → R k (get_or ps i d).0 ≡ Greater → IsPast k ps (i + 1)
  past_more ps i d k h past e = rw add-one (record {
    kept = λ v. ap (λ r. r ++ put R k v (drop (suc i) ps)) (take-suc ps i d h)
        ∙ (append_assoc (take i ps) (get_or ps i d ∷ []) (put R k v (drop (suc i) ps))
        ∙ (sym (ap (λ r. take i ps ++ r) (step ps i d k v Greater h e)) ∙ past.kept v));
  })

  pub goes_last : (ps : List (K × X)) (k : K) → IsPast k ps (length ps) → Goes R k ps (length ps)
  goes_last ps k past = record {
    in_range = omega arith;
    put_is = λ v. sym (ap (λ r. take (length ps) ps ++ put R k v r) (drop-length ps) ∙ ap (λ r. take (length ps) ps ++ (k, v) ∷ r) (sym (drop-length ps))) ∙ past.kept v;
  }

-- ---- what is found once a pair was put

-- at its key
pub found_here : {X : Type 0} (k : Key) (v : X) (es : List (Key × X)) → find key_cmp k (put key_cmp k v es) ≡ Some v
found_here k v es = find-put key_cmp key_total k k v es ∙ ap (λ o. cond (is_eq o) (Some v) (find key_cmp k es)) (tied_itself key_total k)

-- .. and at another key than the one that was written
pub found_there : {X : Type 0} (q k : Key) (v : X) (es : List (Key × X)) → q ≢ k → find key_cmp q (put key_cmp k v es) ≡ find key_cmp q es
found_there q k v es off = find-put key_cmp key_total q k v es ∙ go (key_cmp q k) refl
  where
    go : (o : Ordering) → key_cmp q k ≡ o → cond (is_eq o) (Some v) (find key_cmp q es) ≡ find key_cmp q es
    go Less e = refl
    go Equal e = absurd (off (key_same q k e))
    go Greater e = refl
