pub mod Thermostat
