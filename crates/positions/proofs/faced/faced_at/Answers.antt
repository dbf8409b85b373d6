-- After o turns the symbols of the first o subterms are there, each of these has a position k, and as long as one symbol is said to stand alone
-- all of them have the first one's.
use Rattle.std.proofs.Common.{arith, ◌≡◌, ◌+◌, get_or, length, refl}
use borrow.Author.Count.{below_none}
use Rattle.meaning.specs.Limits.{set_words_lem}
use Rattle.sets.proofs.Laws.{member-zeros}
use Rattle.facing.specs.Notes.{note_at}
use Rattle.positions.proofs.Standing.{stand_none, stand_alone}
use Rattle.positions.proofs.faced.faced_at.Goals as goal

pub loop-note-init : goal.loop-note-init
loop-note-init c = (refl, stand_none _ _ _ _ (member-zeros set_words_lem), λ _. below_none _)

pub returns-then-alone : goal.returns-then-alone
returns-then-alone c =
    let heading = c.args.heading.now in
    let notes = c.args.notes.now in
    let e : c.loop-note.note-index ≡ length notes = omega arith in
    let start = (note_at notes 0).start in
    let inside = c.requires.within.0 0 c.requires.notes_nonzero.0 in
    let small = c.requires.within.1 (start + c.args.k) (omega arith) in
    record {
      stand = stand_alone heading notes c.args.k (length notes) (get_or heading (start + c.args.k) 0) c.requires.notes_nonzero.0 small refl (λ o l. c.loop-note.invariant.2 c.if-alone.true o (omega arith)) (rw e at c.loop-note.invariant.1);
      alone_is = refl;
    }
