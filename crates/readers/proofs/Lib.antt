-- The laws that this crate's proofs and its clients' cite, a file for an idea.
-- The functions: a pass over a frame.
pub mod Spans  -- records that follow one another
pub mod Lengths  -- every layout moves on
pub mod SpanSizes  -- a span is as long as its layout says; one with a value reaches behind its type
pub mod Sweeping  -- a pass over the records
pub mod Bodies  -- where they start
pub mod Records  -- a pass over the spans gives the records
pub mod Discoveries  -- a discover reply: its complete byte, and the records behind it
pub mod Values  -- a record with a value, from its fields and the value's place
-- What was written is read back, and nothing else is accepted.
pub mod Codec  -- one record, and any number of them
pub mod Heads  -- where a body starts
pub mod Fields  -- numbers, first bytes, fixed lengths
pub mod CodecFixed  -- records of a fixed length
pub mod Valued  -- records that end with a value
pub mod CodecReport  -- a report's record
pub mod CodecRead  -- a read reply's record
pub mod CodecSetting  -- a read configuration reply's record
pub mod Plain  -- replies that are nothing but records, both ways
pub mod Failing  -- lists of failures, both ways
pub mod Discovering  -- a discover reply, both ways
pub mod Responding  -- a Default Response, both ways
pub mod ReadsBack  -- the promise, reply by reply
-- What was served.
pub mod Reaching  -- a request that was answered reached its command
pub mod Outs  -- the bytes of an outcome that is a reply
pub mod Wholes  -- a value of a store is a whole value of its type
pub mod Keeping  -- what holds of every record made holds of all that a reply keeps
pub mod Finding  -- what holds of every value found holds of the records made
pub mod Answers  -- from what a command sends to what is read of it
pub mod ReadsServed  -- the reply to a read
pub mod WritesServed  -- the reply to a write, undivided or not
pub mod ConfiguresServed  -- the reply to a Configure Reporting
pub mod SettingsServed  -- the reply to a Read Reporting Configuration
pub mod DiscoversServed  -- the reply to a Discover Attributes
pub mod ResponsesServed  -- a Default Response
pub mod ReportsSent  -- a report that was made
pub mod ServesBack  -- the promise, command by command
-- The number comes through.
pub mod Numbered  -- the number of a whole value is that of its bytes alone
pub mod Through  -- the number that is read is the number in the store
pub mod WorkedNumbers  -- over store T, by computing
-- No second answer, and the bench replies.
pub mod Views  -- what an answer says tells the answer
pub mod Cases  -- each answer tells what its contract says
pub mod Unique  -- no second answer fits
pub mod Worked  -- the bench replies, read
