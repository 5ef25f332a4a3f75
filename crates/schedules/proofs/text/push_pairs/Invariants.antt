use Rattle.std.proofs.Common.{◌≡◌, ◌++◌, ◌∷◌, ℕ, List, drop, codes, flat_map}
use Rattle.text_lines.specs.Texts.{hex, show_bytes}
use Rattle.schedules.proofs.text.push_pairs.Given as goal

abbrev pub pairs_text : List (List ℕ × List ℕ) → List ℕ
pairs_text pairs = flat_map (λ pair. 32 ∷ hex pair.0 ++ codes "=" ++ show_bytes pair.1) pairs

-- what is written so far and what is left is all
abbrev pub invariant-loop-pair : goal.invariant-loop-pair
invariant-loop-pair l = l.out.items ++ pairs_text (drop l.pair-index l.pairs) ≡ l.fn.out.items ++ pairs_text l.pairs
