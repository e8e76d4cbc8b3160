-- Books are sound.
use Rattle.std.proofs.Common.{List, sym, subst}
use Rattle.acq_core.specs.declared.event.Event.{Event}
use Rattle.acq_core.specs.Tables.{Opening, new_tables, tables_after}
use Rattle.acq_core.specs.Events.{AreEvents, IsOpening}
use Rattle.acq_soundness.specs.Books.{IsSound, BooksAreSound}
use Rattle.acq_soundness.proofs.RangesStayApart.{ranges_stay_apart}
use Rattle.acq_soundness.proofs.KeysStayUnique.{keys_stay_unique}
use Rattle.acq_soundness.proofs.ReferencesAreConsecutive.{references_are_consecutive}
use Rattle.acq_soundness.proofs.RepliesAreMessages.{replies_are_messages, gives_replies}
use Rattle.acq_soundness.proofs.SensitiveDataStaysOut.{sensitive_data_stays_out}
use Rattle.acq_soundness.proofs.NumbersStayBounded.{numbers_stay_bounded}
use Rattle.acq_soundness.proofs.RowsFitTheirTypes.{rows_fit_their_types}

sound_after : (opening : Opening) (es : List Event) → IsOpening opening → AreEvents es →
    IsSound opening (tables_after (new_tables opening) es)
sound_after opening es opens are =
    let references = references_are_consecutive opening es in
    record {
      ranges = ranges_stay_apart opening es;
      keys = keys_stay_unique opening es;
      references = references.0;
      unique_references = references.1;
      replies = (replies_are_messages opening es opens are).0;
      next_reply = gives_replies opening opens es are;
      card_data = (sensitive_data_stays_out opening es opens are).0;
      numbers = numbers_stay_bounded opening es opens are;
      rows = rows_fit_their_types opening es opens are;
    }

pub books_are_sound : BooksAreSound
books_are_sound opening t book =
    subst (IsSound opening) (sym book.after)
    (sound_after opening book.events book.opens book.are_events)
