pub mod ToldFlows
