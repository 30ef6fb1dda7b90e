use Rattle.std.proofs.Common.{◌∙◌, ap, ◌++◌, List, ℕ, w32}
use Rattle.std.specs.Int.{to_le_bytes}
use Rattle.sled_files.specs.Header.{header, magic, format}
use Rattle.sled_files.proofs.begin.first_payload.Goals as goal

pub returns-clause-ok : goal.returns-clause-ok
unfolding header
returns-clause-ok c =
    c.in_ok-extend_from_slice-4.ensures.items
    ∙ ap (λ (l : List ℕ). l ++ c.args.payload.now)
    (c.in_ok-extend_from_slice-3.ensures.items
    ∙ ap (λ (l : List ℕ). l ++ c.to_le_bytes-2.result) (c.in_ok-extend_from_slice-2.ensures.items ∙ ap (λ (l : List ℕ). l ++ c.to_le_bytes.result) (c.in_ok-extend_from_slice.ensures.items ∙ ap (λ (l : List ℕ). l ++ magic) c.new-bytes.ensures.items))
    ∙ ap (λ (l : List ℕ). magic ++ l ++ c.to_le_bytes-2.result) c.to_le_bytes.ensures
    ∙ ap (λ (l : List ℕ). magic ++ to_le_bytes w32 format ++ l) c.to_le_bytes-2.ensures)
