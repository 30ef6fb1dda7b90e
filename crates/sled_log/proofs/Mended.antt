-- What a crash leaves of a log that is mended, and what is left then.
use Rattle.std.proofs.Common.{◌≡◌, ℕ, ◌+◌, ◌≤◌, ◌<◌, List, [], ◌∷◌, ◌++◌, length, take, drop, refl, sym, ◌∙◌, ap, arith, ⊎_elim, append_assoc, length-append, length-drop, take-append-drop, take-take}
use Rattle.std.proofs.lemmas.List.{take_at}
use Rattle.sled_disk.specs.Disk.{written, Torn, Shortened}
use Rattle.sled_log.specs.Digest.{digest}
use Rattle.sled_log.specs.Log.{closed, blocks, IsLog}
use Rattle.sled_log.specs.Tear.{log_to_tear, HasNoBlock, EndsAt, ReadsAs}
use Rattle.sled_log.proofs.ReadingLemmas.{digest_small}
use Rattle.sled_log.proofs.Tearing.{closed_ends, short_ends, ends_read}

-- it ends within the file
pub ends_within : {file : List ℕ} {payloads : List (List ℕ)} {end : ℕ} → EndsAt digest file payloads end → end ≤ length file
ends_within {file} {payloads} e = omega (arith, e.place_is, ap length e.file_is, length-append (blocks digest payloads) e.rest)

-- what is as it was is read as it was
pub same_reads : {file c : List ℕ} → c ≡ file → ReadsAs file c
same_reads is = ap (log_to_tear digest) is

module _ {file : List ℕ} {end : ℕ} (e : EndsAt digest file (log_to_tear digest file) end) where
  abbrev payloads : List (List ℕ)
  payloads = log_to_tear digest file

  abbrev front : List ℕ
  front = blocks digest payloads

  -- a file with these blocks, and no block behind them, is read as before
  reads_same : (c rest : List ℕ) → HasNoBlock digest rest → c ≡ front ++ rest → ReadsAs file c
  reads_same c rest none is = ends_read digest digest_small (record { fit = e.fit; rest = rest; file_is = is; ends = none; place_is = e.place_is })

  up_to_end : take end file ≡ front
  up_to_end = ap (λ (l : List ℕ). take end l) e.file_is ∙ take_at front e.rest end e.place_is

  closed_is : written end (closed ∷ []) file ≡ front ++ closed ∷ drop (end + 1) file
  closed_is =
      ap (λ (l : List ℕ). l ++ (closed ∷ []) ++ drop (end + 1) file) up_to_end
      ∙ append_assoc front (closed ∷ []) (drop (end + 1) file)

  -- with a closed gate at its end
  pub closed_log : IsLog digest (written end (closed ∷ []) file) payloads end
  closed_log = record { fit = e.fit; rest = drop (end + 1) file; file_is = closed_is; gate_is = e.place_is }

  -- the gate is the last byte, if the file ended there
  pub closed_last : length file ≤ end → end + 1 ≡ length (written end (closed ∷ []) file)
  closed_last short = omega (arith, short, e.place_is, ap length closed_is, length-append front (closed ∷ drop (end + 1) file), length-drop (end + 1) file)

  whole_is : (c : List ℕ) → take end c ≡ take end file → c ≡ front ++ drop end c
  whole_is c before = sym (take-append-drop end c) ∙ ap (λ (l : List ℕ). l ++ drop end c) (before ∙ up_to_end)

  -- while the gate is closed
  pub closing : (c : List ℕ) → Torn end (closed ∷ []) file c → ReadsAs file c
  closing c torn = by_rest e.rest e.file_is
    where
      by_rest : (rest : List ℕ) → file ≡ front ++ rest → ReadsAs file c
      by_rest [] is =
          let short : length file ≡ end = ap length is ∙ length-append front [] ∙ omega (arith, e.place_is) in
          reads_same c (drop end c) (short_ends digest (drop end c) (omega (arith, short, torn.no_longer, length-drop end c))) (whole_is c torn.before)
      by_rest (x ∷ rest) is =
          let within : end < length file = omega (arith, e.place_is, ap length is, length-append front (x ∷ rest)) in
          ⊎_elim same_reads (λ done. reads_same c (closed ∷ drop (end + 1) file) (closed_ends digest (drop (end + 1) file)) (done ∙ closed_is)) (torn.single refl within)

  up_to_gate : take (end + 1) (written end (closed ∷ []) file) ≡ front ++ closed ∷ []
  up_to_gate =
      ap (λ (l : List ℕ). take (end + 1) l) (closed_is ∙ sym (append_assoc front (closed ∷ []) (drop (end + 1) file)))
      ∙ take_at (front ++ closed ∷ []) (drop (end + 1) file) (end + 1) (length-append front (closed ∷ []) ∙ ap (λ (n : ℕ). n + 1) e.place_is)

  -- and what is behind it is cut off
  pub cut_log : IsLog digest (take (end + 1) (written end (closed ∷ []) file)) payloads end
  cut_log = record { fit = e.fit; rest = []; file_is = up_to_gate; gate_is = e.place_is }

  pub cut_last : end + 1 ≡ length (take (end + 1) (written end (closed ∷ []) file))
  cut_last = sym (ap length up_to_gate ∙ length-append front (closed ∷ []) ∙ ap (λ (n : ℕ). n + 1) e.place_is)

  closed_long : end + 1 ≤ length (written end (closed ∷ []) file)
  closed_long = omega (arith, e.place_is, ap length closed_is, length-append front (closed ∷ drop (end + 1) file))

  -- while it is
  pub cutting : (c : List ℕ) → Shortened (end + 1) (written end (closed ∷ []) file) c → ReadsAs file c
  cutting c shorter =
      let whole = written end (closed ∷ []) file in
      let long : end + 1 ≤ length c = omega (arith, closed_long, shorter.no_shorter) in
      let begins : take (end + 1) c ≡ front ++ closed ∷ [] = ap (λ (l : List ℕ). take (end + 1) l) shorter.front ∙ take-take (end + 1) (length c) whole long ∙ up_to_gate in
      let behind = drop (end + 1) c in
      reads_same c (closed ∷ behind) (closed_ends digest behind)
      (sym (take-append-drop (end + 1) c) ∙ ap (λ (l : List ℕ). l ++ behind) begins ∙ append_assoc front (closed ∷ []) behind)
