-- What is shown of frames, one after another.
use Rattle.std.proofs.Common.{◌≡◌, ℕ, Bool, true, false, List, [], ◌∷◌, ◌++◌, refl, sym, ap, ◌∙◌}
use Rattle.std.proofs.Common.{append-nil, append_assoc, take, inl, inr, Ok, Err}
use Rattle.std.specs.Prelude.{Result}
use Rattle.std.proofs.lemmas.List.Concat.{flat_map-append}
use Rattle.acq_link.specs.Frames.{fits_frame, frame, framed}
use Rattle.acq_link.specs.FramesAt.{BeginsWithFrame}
use Rattle.acq_link.specs.HexFaults.{IsFaultOf}
use Rattle.acq_link.specs.HexLines.{messages_of_text}
use Rattle.acq_link.specs.declared.hex_frames.hex_fault.HexFault as hex
use Rattle.acq_link.specs.declared.input_fault.InputFault as input
use Rattle.acq_commands.specs.declared.input_form.InputForm.{InputForm}
use Rattle.acq_commands.specs.declared.input_form.InputForm.TheVariants as form
use Rattle.acq_commands.specs.declared.shown_form.ShownForm.{ShownForm}
use Rattle.acq_faults.specs.declared.fault.Fault as fault
use Rattle.acq_faults.specs.Faults.{failed_reads, failed_writes, of_hex, of_input}
use Rattle.acq_commands.specs.Show.{FrameFault, Shows, ShowsAll, ShowsFirst, ShowsHex, ShowsInput}
use Rattle.acq_commands.specs.Show.{ShowsBy, ShowsOne, ShowsUntil, entries, entry, is_text}
use Rattle.acq_link.proofs.FramesInOrder.{taken_all, taken_more, taken_none}

pub shows_none : (how : ShownForm) (bytes : List ℕ) → ShowsFirst how bytes [] [] bytes
shows_none how bytes = record { taken = taken_none bytes; given = refl }

-- one frame more
pub shows_more : (how : ShownForm) (bytes out rest message later : List ℕ) (messages : List (List ℕ)) →
    ShowsFirst how bytes out messages rest → rest ≡ frame message ++ later → fits_frame message ≡ true →
    ShowsFirst how bytes (out ++ entry how message) (messages ++ message ∷ []) later
shows_more how bytes out rest message later messages so front fits = record {
  taken = taken_more bytes rest message later messages so.taken front fits;
  given = ap (λ (x : List ℕ). x ++ entry how message) so.given
      ∙ ap (λ (x : List ℕ). entries how messages ++ x) (sym (append-nil (entry how message)))
      ∙ sym (flat_map-append (entry how) messages (message ∷ []));
}

-- all frames
pub shows_all : (how : ShownForm) (bytes out rest : List ℕ) (messages : List (List ℕ)) →
    ShowsFirst how bytes out messages rest →
    rest ≡ [] → ShowsAll how bytes out
shows_all how bytes out rest messages so empty =
    (messages, taken_all bytes rest messages so.taken empty, so.given)

plain_unshown : (how : ShownForm) (is : Bool) (e : input.InputFault) (bytes : List ℕ) →
    ShowsBy how is bytes [] (Err (of_input e))
plain_unshown how true input.TheVariants.Memory bytes = refl
plain_unshown how true input.TheVariants.Read bytes = refl
plain_unshown how false input.TheVariants.Memory bytes = ([], bytes, shows_none how bytes)
plain_unshown how false input.TheVariants.Read bytes = refl

-- the input could not be read, so nothing was shown
pub input_unshown : (how : ShownForm) (form : InputForm) (e : input.InputFault) (bytes : List ℕ) →
    ShowsInput how form bytes [] (Err (of_input e))
input_unshown how form.Plain e bytes = plain_unshown how (is_text bytes) e bytes
input_unshown how form.HexLines input.TheVariants.Memory bytes = inl refl
input_unshown how form.HexLines input.TheVariants.Read bytes = refl

-- ---- where no whole frame stands at the front

pub frame_stops : (how : ShownForm) (bytes out rest : List ℕ) (messages : List (List ℕ)) (f : fault.Fault) →
    ShowsFirst how bytes out messages rest → FrameFault rest f → ShowsUntil how bytes out f
frame_stops how bytes out rest messages fault.TheVariants.BadLength first h = (messages, rest, first, h)
frame_stops how bytes out rest messages fault.TheVariants.Ended first h = (messages, rest, first, h)
frame_stops how bytes out rest messages f first h = absurd h

pub frame_unread : (rest : List ℕ) (f : fault.Fault) → FrameFault rest f →
    failed_reads (Err f) ≡ 0
frame_unread rest fault.TheVariants.BadLength h = refl
frame_unread rest fault.TheVariants.Ended h = refl
frame_unread rest f h = absurd h

pub frame_unwritten : (rest : List ℕ) (f : fault.Fault) → FrameFault rest f →
    failed_writes (Err f) ≡ 0
frame_unwritten rest fault.TheVariants.BadLength h = refl
frame_unwritten rest fault.TheVariants.Ended h = refl
frame_unwritten rest f h = absurd h

-- ---- where a message was not shown whole

pub one_stops : (how : ShownForm) (bytes out rest message later start old new : List ℕ) (messages : List (List ℕ))
    (f : fault.Fault) → ShowsFirst how bytes out messages rest → BeginsWithFrame rest message later →
    old ≡ start ++ out → ShowsOne how message old new (Err f) →
    (more : List ℕ) × (new ≡ start ++ more) × ShowsUntil how bytes more f
one_stops how bytes out rest message later start old new messages fault.TheVariants.Memory first begins
    is same =
    (out, same ∙ is, (messages, rest, first))
one_stops how bytes out rest message later start old new messages (fault.TheVariants.Write n) first
    begins is so =
    let part = take n (entry how message) in (
      out ++ part,
      so.1 ∙ (ap (λ (x : List ℕ). x ++ part) is ∙ append_assoc start out part),
      (
        messages,
        message,
        record {
          rest = rest;
          before = out;
          shows = first;
          next = (later, begins);
          short = so.0;
          given = refl;
        },
      ),
    )
one_stops how bytes out rest message later start old new messages f first begins is h = absurd h

pub one_unread : (how : ShownForm) (message old new : List ℕ) (f : fault.Fault) → ShowsOne how message old new (Err f) →
    failed_reads (Err f) ≡ 0
one_unread how message old new fault.TheVariants.Memory h = refl
one_unread how message old new (fault.TheVariants.Write n) h = refl
one_unread how message old new f h = absurd h

-- ---- lines in hexadecimal

-- none of their messages could be shown
pub hex_unshown : (how : ShownForm) (lines : List ℕ) (e : hex.HexFault) → IsFaultOf lines e →
    ShowsHex how lines [] (Err (of_hex e))
hex_unshown how lines hex.TheVariants.Memory h = inl refl
hex_unshown how lines (hex.TheVariants.BadLine n) h = (h, refl)

-- they hold the messages that were shown
pub hex_shown : (how : ShownForm) (lines out : List ℕ) (messages : List (List ℕ)) (r : Result (Unit {0}) fault.Fault)
    → messages_of_text lines ≡ Ok messages → Shows how (framed messages) out r → ShowsHex how lines out r
hex_shown how lines out messages (Ok u) spelled shown = (messages, spelled, shown)
hex_shown how lines out messages (Err (fault.TheVariants.BadLine n)) spelled shown = absurd shown
hex_shown how lines out messages (Err fault.TheVariants.Read) spelled shown = shown
hex_shown how lines out messages (Err fault.TheVariants.Memory) spelled shown =
    inr (messages, spelled, shown)
hex_shown how lines out messages (Err f) spelled shown = (messages, spelled, shown)
