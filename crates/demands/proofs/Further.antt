-- What else is said holds of the meaning's program: each sentence is a law of the meaning's calls, and the trees that a list writes are the ones
-- that the laws speak of, since it writes no other.
use mathlib.Core.Path.{◌≡◌}
use mathlib.Core.Logic.{◌↔◌}
use mathlib.Core.List.{List}
use Prim.Native.Nat.{ℕ}
use Rattle.theory.specs.Tree.{Term, Pattern}
use Rattle.meaning.specs.File.{table_in}
use Rattle.meaning.specs.Refusals.{first, table_rows, SoundFile}
use Rattle.meaning.specs.Calls.{gives, aye, is_table_lem, match_call}
use Rattle.meaning.specs.Demands.{WritesTerm, WritesPattern, Accepted, Decides, Demand2}
use Rattle.meaning.specs.Tables.{TableFile}
use Rattle.meaning.specs.TopCut.{AtTopCut}
use Rattle.meaning.proofs.First.{unless_gives}
use Rattle.meaning.proofs.Recognised.{recognised}
use Rattle.meaning.proofs.NotListed.{top_not_listed, top_not_written}
use Rattle.meaning.proofs.Degrees.{symbol_degrees}
use Rattle.meaning.proofs.PairsKept.{made_richer}
use Rattle.meaning.proofs.Back.{reads_back}
use Rattle.meaning.proofs.RoundTrip.{round_trip}
use Rattle.meaning.proofs.Faults.{heading_faults, match_faults}
use Rattle.meaning.proofs.Saved.{widens}
use Rattle.meaning.proofs.Widened.{as_today}
use Rattle.meaning.proofs.Matched.{Ready, ready, demand2 as of_match}
use Rattle.meaning.proofs.Reasons.{reasons}
use Rattle.meaning.proofs.Sentences.{sentences}
use Rattle.meaning.proofs.Spans.{answered_none, packed_in_order, variable_degrees}
use Rattle.meaning.proofs.NoOverlap.{no_overlap}
use Rattle.meaning.proofs.TopCut.{matchers_make_it, same_heading, at_top_cut}
use Rattle.demands.specs.Further.{MatchSays, Further}
use Rattle.demands.proofs.Meant.{Handing, HandsBack, meant}
use Rattle.demands.proofs.Demand1.{demand1}
use Rattle.demands.proofs.Demands.{demand2}
use Rattle.demands.proofs.Paired.{lowest_paired}
use Rattle.demands.proofs.Handed.{handed_back}
use Rattle.demands.proofs.Stated.{Stated, stated}
use Rattle.demands.proofs.Richer.{loses_nothing, stays_answered}
use Rattle.demands.proofs.NamedAlone.{named_alone}
use Rattle.demands.proofs.NoTerm.{refuses_no_terms}
use Rattle.demands.proofs.RecordHeadings.{record_headings}

is_table_lem-is : (file : List ℕ) → is_table_lem file ≡ gives aye ↔ TableFile file
unfolding is_table_lem
is_table_lem-is file = (
  (λ e. (recognised file).0 (unless_gives (first (table_rows file)) aye aye e).0),
  (λ t. rw ((recognised file).1 t)),
)

pub says : (table pattern heading : List ℕ) (cut : ℕ) (spans sets : List ℕ) → Accepted table pattern heading cut spans sets
    → (p : Pattern) → WritesPattern (table_in table) pattern p → (h : Term) → WritesTerm (table_in table) heading h
    → MatchSays (table_in table) cut p h pattern (match_call table pattern heading cut spans sets)
says table pattern heading cut spans sets a p wp h wh =
    let r : Ready table pattern heading cut = ready table pattern heading cut spans sets a in
    rw (r.pattern_is.only p wp, r.heading_is.only h wh)
    (record {
      reasons = reasons table pattern heading cut spans sets a;
      sets_and_degrees = sentences table pattern heading cut spans sets a;
      own_degrees = variable_degrees table pattern heading cut spans sets;
      packed = λ d e. packed_in_order table pattern heading cut spans sets (answered_none table pattern heading cut spans sets d e);
      no_overlap = no_overlap table pattern heading cut spans sets a;
    })

at_top : (table pattern heading spans sets : List ℕ) → Accepted table pattern heading 1000 spans sets
    → (p : Pattern) → WritesPattern (table_in table) pattern p → (h : Term) → WritesTerm (table_in table) heading h
    → AtTopCut (table_in table) p h pattern heading (match_call table pattern heading 1000 spans sets)
at_top table pattern heading spans sets a p wp h wh =
    let r : Ready table pattern heading 1000 = ready table pattern heading 1000 spans sets a in
    let s = says table pattern heading 1000 spans sets a p wp h wh in
    at_top_cut (table_in table) r.lawful r.only_itself r.small pattern heading p wp h wh _ decides s.reasons s.sets_and_degrees
  where
    d : Demand2 table pattern heading 1000 (match_call table pattern heading 1000 spans sets)
    d = of_match table pattern heading 1000 spans sets a

    decides : Decides (table_in table) 1000 p h (match_call table pattern heading 1000 spans sets)
    decides = rw (d.writes_pattern.only p wp, d.writes_heading.only h wh) d.decides

accepted : (table : List ℕ) → is_table_lem table ≡ gives aye → SoundFile table
unfolding is_table_lem
accepted table e = (unless_gives (first (table_rows table)) aye aye e).0

match_stated : (H : Handing) → HandsBack H → (table pattern heading : List ℕ) (cut : ℕ) (spans sets : List ℕ) → Stated table pattern heading cut spans sets (match_call table pattern heading cut spans sets)
match_stated H k table pattern heading cut spans sets = stated (meant H) (demand1 H k) (demand2 H) table pattern heading cut spans sets (says table pattern heading cut spans sets)

-- THEOREM
pub further : (H : Handing) → HandsBack H → Further (meant H)
further H k =
    record {
      recognised = is_table_lem-is;
      top_not_listed = top_not_listed;
      top_not_written = top_not_written;
      symbol_degrees = symbol_degrees;
      named_there_alone = named_alone (meant H) (demand1 H k);
      reads_back = reads_back;
      round_trip = round_trip;
      terms = refuses_no_terms (meant H) (demand1 H k);
      heading_faults = heading_faults;
      match_faults = match_faults;
      paired = lowest_paired;
      same_heading = same_heading;
      handed_back = handed_back H k;
      matches = says;
      matchers_make_it = λ table e. matchers_make_it table (accepted table e);
      top_cut = at_top;
      made_richer = λ table₁ table₂ e₁ e₂. made_richer table₁ table₂ (accepted table₁ e₁) (accepted table₂ e₂);
      richer = λ table₁ table₂ pattern heading cut spans₁ sets₁ spans₂ sets₂ more.
          loses_nothing table₁ table₂ pattern heading cut spans₁ sets₁ spans₂ sets₂ _ _ more
          (match_stated H k table₁ pattern heading cut spans₁ sets₁) (match_stated H k table₂ pattern heading cut spans₂ sets₂);
      stays_answered = λ table₁ table₂ pattern heading cut spans sets more e₂.
          stays_answered table₁ table₂ pattern heading cut spans sets _ _ more (accepted table₂ e₂)
          (match_stated H k table₁ pattern heading cut spans sets) (match_stated H k table₂ pattern heading cut spans sets);
      widens = widens;
      as_today = as_today;
      record_headings = record_headings H;
    }
