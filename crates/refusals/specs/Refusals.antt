-- The refusal numbers (document 01, "Refusal numbers"; from 21 on, and of settings, document 02), each once for all
-- definitions. The code has them as the variants of an enum, under the same names (src/lib.rt). There is no number 8.
use Rattle.std.specs.Prelude.{ℕ, ◌≡◌, Result, Ok, Err}
use Rattle.refusals.specs.declared.RefusalNumber.{RefusalNumber}

-- datagram length is 0, not a multiple of 4, or over 2,048
abbrev pub bad_length : ℕ
bad_length = 1

-- version is not 2, or the packet runs past the end
abbrev pub bad_packet : ℕ
bad_packet = 2

-- bad padding
abbrev pub bad_padding : ℕ
bad_padding = 3

-- first packet is neither 200 nor 201, and reduced size was not agreed
abbrev pub bad_first : ℕ
bad_first = 4

-- content too short for its type; for 211, not exactly 36 bytes
abbrev pub short_content : ℕ
short_content = 5

-- an XR block runs past the content
abbrev pub block_past_end : ℕ
block_past_end = 6

-- block type 12 with block length other than 7
abbrev pub bad_block_length : ℕ
bad_block_length = 7

-- item index not below the item count
abbrev pub no_such_item : ℕ
no_such_item = 9

-- buffer shorter than the message
abbrev pub short_buffer : ℕ
short_buffer = 10

-- a field to be written is out of range; of a check of settings, a slack above 1,966,080
abbrev pub out_of_range : ℕ
out_of_range = 11

-- group 0 or 4,294,967,295, or rate outside 1 to 192,000
abbrev pub bad_opening : ℕ
bad_opening = 12

-- report or settings packet of another group or media source
abbrev pub other_stream : ℕ
other_stream = 13

-- source number held by another origin
abbrev pub other_origin : ℕ
other_origin = 14

-- received time not within 30 s at or before the reading
abbrev pub received_far : ℕ
received_far = 15

-- RTP age above 60 seconds of media clock
abbrev pub rtp_aged : ℕ
rtp_aged = 16

-- presentation delay over 30 s, or expanded presentation equal to 0; of a check of settings, delay over 30 s, presented 0
-- or a delay of 0; at a loudspeaker, presented not 0 and its delay over 30 s or 0
abbrev pub badly_presented : ℕ
badly_presented = 17

-- new member, and 64 places held
abbrev pub no_room : ℕ
no_room = 18

-- farewell from a source number not held
abbrev pub no_member : ℕ
no_member = 19

-- no fresh member to follow
abbrev pub none_counted : ℕ
none_counted = 20

-- not the grammar of the SDP line
abbrev pub bad_line : ℕ
bad_line = 21

-- more than ten digits, or a value above 4,294,967,294, with the grammar otherwise kept; to the writer, 4,294,967,295
abbrev pub bad_group : ℕ
bad_group = 22

-- more than 64 reports in a burst
abbrev pub long_burst : ℕ
long_burst = 23

-- answer list shorter than the burst's reports
abbrev pub short_answers : ℕ
short_answers = 24

-- a recording over 65,536 bytes, with its head or its table of contents cut short, with more than 256 entries, or with
-- bodies that do not end exactly at its end
abbrev pub bad_layout : ℕ
bad_layout = 25

-- step of a playout clock below 1 or over 2^57
abbrev pub bad_step : ℕ
bad_step = 26

-- current or target of a playout clock outside of plus or minus 2^57
abbrev pub outside_range : ℕ
outside_range = 27

-- the number that a variant of the code's enum stands for
abbrev pub refusal_number : RefusalNumber → ℕ
refusal_number RefusalNumber.BadLength = bad_length
refusal_number RefusalNumber.BadPacket = bad_packet
refusal_number RefusalNumber.BadPadding = bad_padding
refusal_number RefusalNumber.BadFirst = bad_first
refusal_number RefusalNumber.ShortContent = short_content
refusal_number RefusalNumber.BlockPastEnd = block_past_end
refusal_number RefusalNumber.BadBlockLength = bad_block_length
refusal_number RefusalNumber.NoSuchItem = no_such_item
refusal_number RefusalNumber.ShortBuffer = short_buffer
refusal_number RefusalNumber.OutOfRange = out_of_range
refusal_number RefusalNumber.BadOpening = bad_opening
refusal_number RefusalNumber.OtherStream = other_stream
refusal_number RefusalNumber.OtherOrigin = other_origin
refusal_number RefusalNumber.ReceivedFar = received_far
refusal_number RefusalNumber.RtpAged = rtp_aged
refusal_number RefusalNumber.BadlyPresented = badly_presented
refusal_number RefusalNumber.NoRoom = no_room
refusal_number RefusalNumber.NoMember = no_member
refusal_number RefusalNumber.NoneCounted = none_counted
refusal_number RefusalNumber.BadLine = bad_line
refusal_number RefusalNumber.BadGroup = bad_group
refusal_number RefusalNumber.LongBurst = long_burst
refusal_number RefusalNumber.ShortAnswers = short_answers
refusal_number RefusalNumber.BadLayout = bad_layout
refusal_number RefusalNumber.BadStep = bad_step
refusal_number RefusalNumber.OutsideRange = outside_range

-- an answer is this refusal, and the refusal has this number
abbrev pub IsRefused : {A : Type 0} → Result A RefusalNumber → RefusalNumber → ℕ → Type 0
IsRefused answer refused number = (answer ≡ Err refused) × (refusal_number refused ≡ number)

-- what a call is answered: its refusal's number, or 0 that there is none
abbrev pub answer_number : Result Unit RefusalNumber → ℕ
answer_number (Ok passed) = 0
answer_number (Err refused) = refusal_number refused
