-- The set has no symbol just where its words are those of the set of none, since words follow from their members.
use Rattle.std.proofs.Common.{rules, List, ℕ, ap, ◌∙◌}
use Rattle.std.proofs.lemmas.Bool.Decides.{Decides-eqb}
use Rattle.std.proofs.lemmas.Slice.Eq.{slice_eq-Decides}
use Rattle.meaning.specs.Limits.{set_words_lem}
use Rattle.meaning.specs.Buffers.{member}
use Rattle.sets.proofs.Laws.{words_of, member-zeros, empty_image}
use Rattle.sets.proofs.SymbolSet.is_empty.Goals as goal

pub returns : goal.returns
returns c =
    let decides = slice_eq-Decides Decides-eqb _ _ _ c.eq.ensures in (
      λ e k. ap (λ (ws : List ℕ). member ws k) (decides.0 e) ∙ member-zeros set_words_lem k,
      λ h. decides.1 (empty_image set_words_lem _ (search (rules, words_of)) h),
    )
