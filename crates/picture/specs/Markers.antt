-- Table A.2: the codes of the markers.
use Rattle.std.specs.Prelude.{ℕ}

abbrev pub SOC : ℕ
SOC = 0xff10

abbrev pub EOC : ℕ
EOC = 0xff11

abbrev pub PIH : ℕ
PIH = 0xff12

abbrev pub CDT : ℕ
CDT = 0xff13

abbrev pub WGT : ℕ
WGT = 0xff14

abbrev pub COM : ℕ
COM = 0xff15

abbrev pub NLT : ℕ
NLT = 0xff16

abbrev pub CWD : ℕ
CWD = 0xff17

abbrev pub CTS : ℕ
CTS = 0xff18

abbrev pub CRG : ℕ
CRG = 0xff19

abbrev pub TPC : ℕ
TPC = 0xff1a

abbrev pub WGR : ℕ
WGR = 0xff1b

abbrev pub SLH : ℕ
SLH = 0xff20

abbrev pub SLI : ℕ
SLI = 0xff21

abbrev pub CAP : ℕ
CAP = 0xff50

-- document 01: 'Bench captions use 0x8B01', a type of extension
abbrev pub CAPTION : ℕ
CAPTION = 0x8b01
