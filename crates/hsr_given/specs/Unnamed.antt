-- What was given in place of the scenario of a run.
--     unread          what a text is that isn't read as a scenario
--     no_text         what octets are that are no text
--     unnamed_words   that in words, and what would do
use Rattle.std.specs.Prelude.{ℕ, List, [], ◌∷◌, codes, if◌then◌else◌, Option, Some, None}
use Rattle.hsr_given.specs.Given.{begins, given_of}
use Rattle.hsr_given.specs.declared.given.Given.TheVariants as given
use Rattle.hsr_given.specs.declared.given.Given.{Given}
use Rattle.hsr_given.specs.declared.unnamed.Unnamed.{Unnamed}
use Rattle.hsr_given.specs.declared.unnamed.Unnamed.TheVariants.{NoFile, NoText, Gzip, Transcript, Report, Plan, Faulty, Other, Sends, Unknown}

abbrev pub by_front : Option Given → Unnamed
by_front None = Unknown
by_front (Some given.Gzip) = Gzip
by_front (Some given.Report) = Report
by_front (Some given.Scenario) = Faulty
by_front (Some given.Plan) = Plan

abbrev pub unread : List ℕ → Unnamed
unread text = if begins text (codes "hsr-bench ") then Transcript else by_front (given_of text)

-- a plan has neither nodes nor links of a scenario's kind, so it is read as a scenario without any
abbrev pub by_name : Option Given → Unnamed
by_name (Some given.Plan) = Plan
by_name _ = Other

abbrev pub other : List ℕ → Unnamed
other text = by_name (given_of text)

-- the first two octets of what gzip writes are 31 and 139
abbrev pub no_text : List ℕ → Unnamed
no_text octets = if begins octets (31 ∷ 139 ∷ []) then Gzip else NoText

abbrev pub unnamed_words : Unnamed → List ℕ
unnamed_words NoFile = codes "the file can't be read"
unnamed_words NoText = codes "this is no text in UTF-8"
unnamed_words Gzip = codes "this is compressed by gzip: give what gunzip makes of it"
unnamed_words Transcript = codes "this is a transcript: it comes on standard input, and --names takes the scenario of its run"
unnamed_words Report = codes "this is a report: give the scenario that was played for it"
unnamed_words Plan = codes "this is a plan: give the scenario that hsr_plan writes of it"
unnamed_words Faulty = codes "this is a scenario with a fault: hsr_plan --check says where"
unnamed_words Other = codes "this is a scenario with other nodes or links: give the one from which the run came"
unnamed_words Sends = codes "this is a scenario with other sends: give the one from which the run came"
unnamed_words Unknown = codes "this is no scenario"
