-- Questions that were answered stay so when more is read behind them: a batch that begins with them begins with them still.
use mathlib.Core.Path.{◌≡◌, ap, ◌∙◌}
use mathlib.Core.List.{List, ◌++◌, append_assoc}
use Prim.Native.Nat.{ℕ, ◌+◌}
use Rattle.input.specs.Coming.{Coming, question, too_long_lem, cut_off_lem, ended, whole, over_long, Comes, behind}
use Rattle.replay.specs.Batches.{turn_text, GoesOn, Begins, none, further}

module _ (more : List ℕ) where
  behind_more : (bytes front rest : List ℕ) → bytes ≡ front ++ rest → bytes ++ more ≡ front ++ (rest ++ more)
  behind_more bytes front rest e = ap (λ s. s ++ more) e ∙ append_assoc front rest more

  asked_more : (bytes asked left : List ℕ) → Comes bytes (question asked left) → Comes (bytes ++ more) (question asked (left ++ more))
  asked_more bytes asked left (behind four rest e k (whole f l s)) =
      behind four (rest ++ more) (behind_more bytes four rest e) k (whole (behind_more rest asked left f) l s)

  long_more : (bytes left : List ℕ) → Comes bytes (too_long_lem left) → Comes (bytes ++ more) (too_long_lem (left ++ more))
  long_more bytes left (behind four rest e k (over_long passed f l s)) =
      behind four (rest ++ more) (behind_more bytes four rest e) k (over_long passed (behind_more rest passed left f) l s)

  -- one question more of a batch that begins so
  further_more : (k : ℕ) (bytes rest left text : List ℕ) (next : Coming) → Begins k (bytes ++ more) (rest ++ more) text → Comes rest next → GoesOn next left
      → Begins (k + 1) (bytes ++ more) (left ++ more) (text ++ turn_text k next)
  unfolding turn_text
  further_more k bytes rest left text (question asked then) b c e = further b (asked_more rest asked then c) (ap (λ s. s ++ more) e)
  further_more k bytes rest left text (too_long_lem then) b c e = further b (long_more rest then c) (ap (λ s. s ++ more) e)
  further_more k bytes rest left text cut_off_lem b c never = elim never [ ]
  further_more k bytes rest left text ended b c never = elim never [ ]

  -- LAW
  pub begun_more : {k : ℕ} {bytes left text : List ℕ} → Begins k bytes left text → Begins k (bytes ++ more) (left ++ more) text
  begun_more none = none
  begun_more (further {k} {bytes} {rest} {left} {text} {next} b c g) = further_more k bytes rest left text next (begun_more b) c g
